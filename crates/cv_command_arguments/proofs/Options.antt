-- Options that are made of options.
use Rattle.std.proofs.Common.{◌≡◌, Bool, true, false, refl, cond}
use Rattle.std.specs.Prelude.{Option, Some, None, is_some, option_and_then, option_map}

pub and_then_same : {X Y : Type 0} (f g : X → Option Y) → ((x : X) → f x ≡ g x) → (found : Option X) → option_and_then f found ≡ option_and_then g found
and_then_same f g same None = refl
and_then_same f g same (Some x) = same x

pub and_then_twice : {X Y Z : Type 0} (f : Y → Option Z) (g : X → Option Y) (found : Option X) → option_and_then f (option_and_then g found) ≡ option_and_then (λ x. option_and_then f (g x)) found
and_then_twice f g None = refl
and_then_twice f g (Some x) = refl

pub some_same : {X Y Z : Type 0} (f : X → Option Y) (g : X → Option Z) → ((x : X) → is_some (f x) ≡ is_some (g x)) → (found : Option X)
    → is_some (option_and_then f found) ≡ is_some (option_and_then g found)
some_same f g same None = refl
some_same f g same (Some x) = same x

pub is_some-map : {X Y : Type 0} (f : X → Y) (found : Option X) → is_some found ≡ is_some (option_map f found)
is_some-map f None = refl
is_some-map f (Some x) = refl

pub and_then_cond : {X Y : Type 0} (f : X → Option Y) (test : Bool) (x : X) → option_and_then f (cond test (Some x) None) ≡ cond test (f x) None
and_then_cond f true x = refl
and_then_cond f false x = refl
