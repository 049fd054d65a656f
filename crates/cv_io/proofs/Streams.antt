-- What sources over memory and whole writes do to known bytes.
use Rattle.std.proofs.Common.{◌≡◌, ℕ, ◌+◌, ◌<◌, ◌≤◌, min, List, [], ◌++◌, length, take, drop, sym, ◌∙◌, ap, arith, take-append-drop, drop-drop, length-drop, append_assoc, append-nil, take-add}
use Rattle.std.proofs.lemmas.List.{drop_all}
use Rattle.std.specs.Prelude.{Option, None, Some, Result, Ok, Err}
use Rattle.std.specs.Io.KnownBytes.{Appends, Keeps, ReadConsumes, WriteAppends}
use Rattle.cv_io.specs.Writes.{AppendsPrefix}

-- a piece copied from the front of the remaining bytes
pub read_consumes : (bytes buf : List ℕ) (at n piece room : ℕ) → n ≡ min (min (length (drop at bytes)) piece) room → 1 ≤ piece → room ≡ length buf → take n buf ≡ take n (drop at bytes)
    → (drop at bytes ≡ take n buf ++ drop (at + n) bytes) × (n ≡ 0 → 0 < length buf → drop (at + n) bytes ≡ [])
read_consumes bytes buf at n piece room count some long copied = (
  sym (take-append-drop n (drop at bytes)) ∙ ap (λ xs. xs ++ drop n (drop at bytes)) (sym copied) ∙ ap (λ xs. take n buf ++ xs) (drop-drop n at bytes),
  λ none wants. drop_all (at + n) bytes (omega (arith, length-drop at bytes)),
)

-- bytes appended one piece after another
pub Appends-more : (a b c : Option (List ℕ)) (bytes : List ℕ) (at n : ℕ) → Appends a b (take at bytes) → Appends b c (take n (drop at bytes)) → Appends a c (take (at + n) bytes)
Appends-more None b c bytes at n h k = tt
Appends-more (Some xs) None c bytes at n h k = absurd h
Appends-more (Some xs) (Some ys) None bytes at n h k = absurd k
Appends-more (Some xs) (Some ys) (Some zs) bytes at n h k =
    k ∙ ap (λ v. v ++ take n (drop at bytes)) h ∙ append_assoc xs (take at bytes) (take n (drop at bytes)) ∙ ap (λ v. xs ++ v) (sym (take-add at n bytes))

-- bytes that stayed grew by nothing
pub appends_none : (a b : Option (List ℕ)) → Keeps a b → Appends a b []
appends_none None b h = tt
appends_none (Some xs) None h = absurd h
appends_none (Some xs) (Some ys) h = h ∙ sym (append-nil xs)

-- bytes that stayed grew by an empty front part
pub prefix_kept : (a b : Option (List ℕ)) (bytes : List ℕ) → Keeps a b → AppendsPrefix a b bytes
prefix_kept a b bytes h = (0, omega (arith), appends_none a b h)

-- appended bytes stay appended while nothing changes
pub appends_then_keeps : (a b c : Option (List ℕ)) (bytes : List ℕ) → Appends a b bytes → Keeps b c → Appends a c bytes
appends_then_keeps None b c bytes h k = tt
appends_then_keeps (Some xs) None c bytes h k = absurd h
appends_then_keeps (Some xs) (Some ys) None bytes h k = absurd k
appends_then_keeps (Some xs) (Some ys) (Some zs) bytes h k = k ∙ h

-- appended bytes that stay are a front part
pub prefix_appended : (a b c : Option (List ℕ)) (bytes : List ℕ) (n : ℕ) → n ≤ length bytes → Appends a b (take n bytes) → Keeps b c → AppendsPrefix a c bytes
prefix_appended a b c bytes n within h k = (n, within, appends_then_keeps a b c (take n bytes) h k)

-- a front part of the rest, appended after the bytes before it, makes a front part of the whole
pub prefix_more : (a b c : Option (List ℕ)) (bytes : List ℕ) (at : ℕ) → at ≤ length bytes → Appends a b (take at bytes) → AppendsPrefix b c (drop at bytes) → AppendsPrefix a c bytes
prefix_more a b c bytes at within h k = (at + k.0, omega (arith, within, k.1, length-drop at bytes), Appends-more a b c bytes at k.0 h k.2)

-- bytes that stayed, and stayed again
pub keeps_after : (a b c : Option (List ℕ)) → Keeps a b → Keeps b c → Keeps a c
keeps_after None b c h k = tt
keeps_after (Some xs) None c h k = absurd h
keeps_after (Some xs) (Some ys) c h k = rw h at k

-- a read after others that took nothing
pub read_after : {E : Type 0} (a b c : Option (List ℕ)) (answer : Result ℕ E) (buf : List ℕ) → Keeps a b → ReadConsumes b c answer buf → ReadConsumes a c answer buf
read_after None b c (Ok n) buf h k = (tt, k.1)
read_after None b c (Err error) buf h k = tt
read_after (Some xs) None c answer buf h k = absurd h
read_after (Some xs) (Some ys) c answer buf h k = rw h at k

-- a write after others that wrote nothing
pub write_after : {E : Type 0} (a b c : Option (List ℕ)) (answer : Result ℕ E) (bytes : List ℕ) → Keeps a b → WriteAppends b c answer bytes → WriteAppends a c answer bytes
write_after None b c (Ok n) bytes h k = tt
write_after None b c (Err error) bytes h k = tt
write_after (Some xs) None c answer bytes h k = absurd h
write_after (Some xs) (Some ys) c answer bytes h k = rw h at k
