-- Takes, one after another.
use Rattle.std.proofs.Common.{◌≡◌, ℕ, List, ◌++◌, sym, ◌∙◌, ap, subst, arith, append_assoc, length-append}
use Rattle.std.specs.Prelude.{Option, None, Some}
use Rattle.std.specs.Io.KnownBytes.{Consumes}
use Rattle.cv_io.specs.Takes.{Progress, Takes}

-- one piece consumed after another
pub Consumes-more : (a b c : Option (List ℕ)) (xs ys : List ℕ) → Consumes a b xs → Consumes b c ys → Consumes a c (xs ++ ys)
Consumes-more None b c xs ys h k = tt
Consumes-more (Some l) None c xs ys h k = absurd h
Consumes-more (Some l) (Some m) None xs ys h k = absurd k
Consumes-more (Some l) (Some m) (Some n) xs ys h k = h ∙ ap (λ v. xs ++ v) k ∙ sym (append_assoc xs ys n)

-- one taking after another
pub Takes-more : (a b c : List ℕ) (p q r : Progress) (l m n : Option (List ℕ)) → Takes a b p q l m → Takes b c q r m n → Takes a c p r l n
Takes-more a b c p q r l m n h k = record {
  more = h.more ++ k.more;
  joined = k.joined ∙ ap (λ v. v ++ k.more) h.joined ∙ append_assoc a h.more k.more;
  consumed = Consumes-more l m n h.more k.more h.consumed k.consumed;
  counted = omega (arith, length-append h.more k.more, h.counted, k.counted);
  over = λ e. let x = h.over e in let y = k.over x.1 in (λ i. x.0 i ++ y.0 i, y.1);
  seen = λ before now. k.seen (h.seen before) now;
}

-- the same bytes and counts under other names
pub Takes-same : (a b c : List ℕ) (p q r : Progress) (l m : Option (List ℕ)) → Takes a b p q l m → c ≡ b → r ≡ q → Takes a c p r l m
Takes-same a b c p q r l m h e f = subst (λ (x : List ℕ). Takes a x p r l m) (sym e) (subst (λ (x : Progress). Takes a b p x l m) (sym f) h)
