-- What a tree hides of the layers below it, by the texts of paths, as the code looks it up. It is shown in `proofs/` that
-- this is `hides` of `Lay.antt`.
use Rattle.std.specs.Prelude.{ℕ, Bool, true, false, ◌&&◌, ◌||◌, List, [], ◌∷◌, ◌++◌}
use Rattle.std.specs.List.{list_any}
use Rattle.cv_base.specs.Path.{is_slash}
use Rattle.cv_base.specs.code.PathText.{goes_on}
use Rattle.cv_base.specs.Texts.{is_cons}
use Rattle.cv_overlay.specs.code.Text.{is_within}

-- a path is hidden, given by its text: it is one of the first texts or below one, it is below one of the second texts,
-- or all below the top is hidden
abbrev pub hides_text : List (List ℕ) → List (List ℕ) → Bool → List ℕ → Bool
hides_text whole below all t =
    list_any (λ c. is_within c t true) whole || (list_any (λ c. goes_on c t) below || (all && is_cons t))

-- some front of a text passes a test: it begins with what was read before, and ends before a slash of the rest
abbrev pub any_front : (List ℕ → Bool) → List ℕ → List ℕ → Bool
any_front test before [] = false
any_front test before (y ∷ ys) = (is_slash y && test before) || any_front test (before ++ y ∷ []) ys
