use Rattle.std.proofs.Common.{◌∷◌, ◌++◌, sym, ap, ◌∙◌, Result, Ok, Err}
use Rattle.std.specs.Result.{IfOk}
use Rattle.cv_base.specs.Path.{components}
use Rattle.cv_base.proofs.Results.{if_ok}
use Rattle.cv_overlay.specs.Mark.{target_of}
use Rattle.cv_overlay.proofs.CoverLemmas.{target_in, target_top}
use Rattle.cv_overlay.proofs.cover.target_text.Goals as goal

pub returns-in-Some : goal.returns-in-Some
returns-in-Some c =
    if_ok _ _ c.joined.result c.joined.ensures
    (λ target e h.
    ap components (e ∙ ap (λ n. c.in-Some.directory.now ++ 47 ∷ n) c.after_mark.ensures)
    ∙ target_in c.in-Some.directory.now c.in-Some.name.now c.in-Some.ensures.last
    ∙ ap (λ t. target_of (components t)) (sym c.in-Some.ensures.parts))

pub returns-in_ok-from_slice-in-None : goal.returns-in_ok-from_slice-in-None
returns-in_ok-from_slice-in-None c = λ h.
    ap components (c.in_ok-from_slice-in-None.ensures.items ∙ c.after_mark-in-None.ensures) ∙ target_top c.args.text.now c.in-None.ensures.none h
