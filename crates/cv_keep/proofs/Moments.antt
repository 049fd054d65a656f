-- How a run of calls of a disk goes on.
use Rattle.std.proofs.Common.{◌≡◌, ◌≤◌, ◌⊎◌, inl, inr, ⊎_elim, ℕ, List, [], ◌∷◌, ◌++◌, length, Option, Some, None, option_map, IfSome, refl, sym, ◌∙◌, ap, subst, arith, append_assoc, length-append}
use Rattle.std.proofs.lemmas.List.{append-nil, append_cancel_left}
use Rattle.cv_keep.specs.Disk.{Advances, IsCut, IsDurable, IsSame, LeavesAfterSync, LeavesOnly}
use Rattle.cv_keep.specs.code.Walk.{IsFront}

-- before the first call
pub started : (now : ℕ) (p : ℕ → List ℕ → Type 0) (P : List ℕ → Type 0) → ((c : List ℕ) → p now c → P c) → LeavesOnly now now p p P
started now p P here = record { later = omega arith; each = here; earlier = λ t c le left. inl left }

-- one call more, after which a crash leaves what has P
pub goes_on : (t u v : ℕ) (p q r : ℕ → List ℕ → Type 0) (P : List ℕ → Type 0) (step : List ℕ → List ℕ → Type 0) → LeavesOnly t u p q P → Advances step u v q r → ((c : List ℕ) → r v c → P c) → LeavesOnly t v p r P
goes_on t u v p q r P step so_far call here = record {
  later = omega (arith, so_far.later, call.later);
  each = λ c left. ⊎_elim (so_far.each c) (here c) (call.nothing_else t c so_far.later left);
  earlier = λ s c le left. ⊎_elim (so_far.earlier s c le) (λ now. inr (here c now)) (call.nothing_else s c (omega (arith, le, so_far.later)) left);
}

-- two runs
pub then_leaves : (t u v : ℕ) (p q r : ℕ → List ℕ → Type 0) (P : List ℕ → Type 0) → LeavesOnly t u p q P → LeavesOnly u v q r P → LeavesOnly t v p r P
then_leaves t u v p q r P first second = record {
  later = omega (arith, first.later, second.later);
  each = λ c left. ⊎_elim (first.each c) (λ good. good) (second.earlier t c first.later left);
  earlier = λ s c le left. ⊎_elim (first.earlier s c le) inr (second.earlier s c (omega (arith, le, first.later)) left);
}

pub weaker : (t u : ℕ) (p q : ℕ → List ℕ → Type 0) (P Q : List ℕ → Type 0) → LeavesOnly t u p q P → ((c : List ℕ) → P c → Q c) → LeavesOnly t u p q Q
weaker t u p q P Q run so = record {
  later = run.later;
  each = λ c left. so c (run.each c left);
  earlier = λ s c le left. ⊎_elim inl (λ good. inr (so c good)) (run.earlier s c le left);
}

-- a call that changes nothing leaves the file on the disk
pub durable_same : (t u : ℕ) (p q : ℕ → List ℕ → Type 0) (b : List ℕ) → Advances IsSame t u p q → IsDurable b (p t) → IsDurable b (q u)
durable_same t u p q b call durable c left = let old = call.follows c left in old.2 ∙ durable old.0 old.1

-- and a crash during it leaves that file
pub leaves_same : (t u : ℕ) (p q : ℕ → List ℕ → Type 0) (b : List ℕ) (P : List ℕ → Type 0) → Advances IsSame t u p q → IsDurable b (p t) → P b → LeavesOnly t u p q P
leaves_same t u p q b P call durable good =
    goes_on t t u p p q P IsSame (started t p P (λ c left. subst P (sym (durable c left)) good)) call
    (λ c left. subst P (sym (durable_same t u p q b call durable c left)) good)

-- two calls that change nothing; the premise is that what may be left from a moment on may be left from an earlier one on
pub same_then : (t u v : ℕ) (p q r : ℕ → List ℕ → Type 0) → ((s : ℕ) (c : List ℕ) → s ≤ t → p t c → p s c) → Advances IsSame t u p q → Advances IsSame u v q r → Advances IsSame t v p r
same_then t u v p q r earlier first second = record {
  later = omega (arith, first.later, second.later);
  follows = λ c left.
      let mid = second.follows c left in
      let old = first.follows mid.0 mid.1 in
      (old.0, old.1, mid.2 ∙ old.2);
  nothing_else = λ s c le left. ⊎_elim
      (λ from_mid. ⊎_elim inl
      (λ in_mid. let old = first.follows c in_mid in inl (earlier s c le (subst (p t) (sym old.2) old.1)))
      (first.nothing_else s c le from_mid))
      inr
      (second.nothing_else s c (omega (arith, le, first.later)) left);
  keeps = λ s c le left. second.keeps s c (omega (arith, le, first.later)) (first.keeps s c le left);
}

-- none at all
pub same_none : (t : ℕ) (p : ℕ → List ℕ → Type 0) → Advances IsSame t t p p
same_none t p = record {
  later = omega arith;
  follows = λ c left. (c, left, refl);
  nothing_else = λ s c le left. inl left;
  keeps = λ s c le left. left;
}

-- what holds of the file, if it is known
pub if_known : (o : Option (List ℕ)) (A B : List ℕ → Type 0) → IfSome o A → ((b : List ℕ) → o ≡ Some b → A b → B b) → IfSome o B
if_known None A B a so = tt
if_known (Some b) A B a so = so b refl a

pub known_at : (o : Option (List ℕ)) (b : List ℕ) (A : List ℕ → Type 0) → o ≡ Some b → IfSome o A → A b
known_at o b A is a = subst (λ (x : Option (List ℕ)). IfSome x A) is a

-- a first call on a file that is on the disk
pub first_call : (t u : ℕ) (p q : ℕ → List ℕ → Type 0) (step : List ℕ → List ℕ → Type 0) (b : List ℕ) (P : List ℕ → Type 0) → Advances step t u p q → IsDurable b (p t) → P b → ((c : List ℕ) → step b c → P c) → LeavesOnly t u p q P
first_call t u p q step b P call durable good next =
    goes_on t t u p p q P step (started t p P (λ c left. subst P (sym (durable c left)) good)) call
    (λ c left. let old = call.follows c left in next c (subst (λ (f : List ℕ). step f c) (durable old.0 old.1) old.2))

-- and then a sync
pub then_sync : (t u v : ℕ) (p q r : ℕ → List ℕ → Type 0) (step : List ℕ → List ℕ → Type 0) (b : List ℕ) (P : List ℕ → Type 0) → Advances step t u p q → Advances IsSame u v q r → IsDurable b (p t) → P b → ((c : List ℕ) → step b c → P c) → LeavesOnly t v p r P
then_sync t u v p q r step b P call sync durable good next =
    goes_on t u v p q r P IsSame (first_call t u p q step b P call durable good next) sync
    (λ c left.
    let mid = sync.follows c left in
    let old = call.follows mid.0 mid.1 in
    subst P (sym mid.2) (next mid.0 (subst (λ (f : List ℕ). step f mid.0) (durable old.0 old.1) old.2)))

-- no cut
pub cut_none : (len t : ℕ) (p : ℕ → List ℕ → Type 0) → Advances (IsCut len) t t p p
cut_none len t p = record {
  later = omega arith;
  follows = λ c left. (c, left, inl refl);
  nothing_else = λ s c le left. inl left;
  keeps = λ s c le left. left;
}

pub if_known_as : (o n : Option (List ℕ)) (A B : List ℕ → Type 0) → n ≡ o → IfSome o A → ((b : List ℕ) → o ≡ Some b → A b → B b) → IfSome n B
if_known_as o n A B same a so = subst (λ (x : Option (List ℕ)). IfSome x B) (sym same) (if_known o A B a so)

pub if_known_map : (f : List ℕ → List ℕ) (o n : Option (List ℕ)) (A B : List ℕ → Type 0) → n ≡ option_map f o → IfSome o A → ((b : List ℕ) → o ≡ Some b → A b → B (f b)) → IfSome n B
if_known_map f None n A B same a so = subst (λ (x : Option (List ℕ)). IfSome x B) (sym same) tt
if_known_map f (Some b) n A B same a so = subst (λ (x : Option (List ℕ)). IfSome x B) (sym same) (so b refl a)

-- a call that changes nothing, seen from any moment before it; earlier is the law of the disk
pub same_moment : (t u : ℕ) (p q : ℕ → List ℕ → Type 0) (P : List ℕ → Type 0) → ((s : ℕ) (c : List ℕ) → s ≤ t → p t c → p s c) → Advances IsSame t u p q → (s : ℕ) (c : List ℕ) → s ≤ t → q s c → p s c ⊎ P c
same_moment t u p q P earlier call s c le left = ⊎_elim inl
    (λ now. let old = call.follows c now in inl (earlier s c le (subst (p t) (sym old.2) old.1)))
    (call.nothing_else s c le left)

-- a sync that succeeds and then a run
pub sync_then : (t u v : ℕ) (p q r : ℕ → List ℕ → Type 0) (b : List ℕ) (P : List ℕ → Type 0) → Advances IsSame t u p q → LeavesOnly u v q r P → IsDurable b (q u) → P b → (s : ℕ) (c : List ℕ) → s ≤ t → r s c → p s c ⊎ P c
sync_then t u v p q r b P call run durable good s c le left = ⊎_elim
    (λ mid. ⊎_elim inl (λ now. inr (subst P (sym (durable c now)) good)) (call.nothing_else s c le mid))
    inr
    (run.earlier s c (omega (arith, le, call.later)) left)

-- a call that changes nothing: what a read gives is as before
pub reads_same : (o n : Option (List ℕ)) (P : List ℕ → List ℕ → Type 0) → n ≡ o → ((b : List ℕ) → P b b) → IfSome o (λ b. IfSome n (P b))
reads_same None n P same good = tt
reads_same (Some b) n P same good = subst (λ (x : Option (List ℕ)). IfSome x (P b)) (sym same) (good b)

-- and what it gives after a run is one of the images that the run leaves; the laws of the disk are the premises
pub reads_left : (o n : Option (List ℕ)) (t u : ℕ) (p q : ℕ → List ℕ → Type 0) (P : List ℕ → List ℕ → Type 0) → IfSome n (q u) → ((c : List ℕ) → t ≤ u → q u c → q t c) → IfSome o (λ b. LeavesOnly t u p q (P b)) → IfSome o (λ b. IfSome n (P b))
reads_left None n t u p q P reads earlier run = tt
reads_left (Some b) None t u p q P reads earlier run = tt
reads_left (Some b) (Some f) t u p q P reads earlier run = run.each f (earlier f run.later reads)

-- the list of the syncs grows at its end
pub front_none : (old new : List ℕ) → new ≡ old → IsFront old new
front_none old new is = ([], is ∙ sym (append-nil old))

pub front_then : (a b c : List ℕ) → IsFront a b → IsFront b c → IsFront a c
front_then a b c first second =
    (first.0 ++ second.0, second.1 ∙ ap (λ (l : List ℕ). l ++ second.0) first.1 ∙ append_assoc a first.0 second.0)

pub no_new : (old new : List ℕ) (first : ℕ) (more : List ℕ) → new ≡ old → new ≡ old ++ first ∷ more → ⊥
no_new old new first more same is = omega (arith, ap length same, ap length is, length-append old (first ∷ more))

pub first_new : (old mid new : List ℕ) (one first : ℕ) (more : List ℕ) → mid ≡ old ++ one ∷ [] → IsFront mid new → new ≡ old ++ first ∷ more → first ≡ one
first_new old mid new one first more synced front is =
    let both : one ∷ front.0 ≡ first ∷ more = append_cancel_left old (one ∷ front.0) (first ∷ more)
    (sym (append_assoc old (one ∷ []) front.0) ∙ ap (λ (l : List ℕ). l ++ front.0) (sym synced) ∙ sym front.1 ∙ is) in
    cc both

-- no sync succeeded
pub after_none : (old new : List ℕ) (since : ℕ → List ℕ → Type 0) (P : List ℕ → Type 0) → new ≡ old → LeavesAfterSync old new since P
after_none old new since P same first more is image left = absurd (no_new old new first more same is)

-- one did, and what followed it
pub after_first : (old mid new : List ℕ) (at u : ℕ) (q r : ℕ → List ℕ → Type 0) (P : List ℕ → Type 0) → mid ≡ old ++ at ∷ [] → IsFront mid new → LeavesOnly at u q r P → LeavesAfterSync old new r P
after_first old mid new at u q r P synced front run first more is image left =
    run.each image (subst (λ (t : ℕ). r t image) (first_new old mid new at first more synced front is) left)
