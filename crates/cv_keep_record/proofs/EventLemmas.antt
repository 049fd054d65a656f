-- The two laws of an event: what is read is spelled so, and what is spelled so is read. From them, those of a record.
use Rattle.std.proofs.Common.{◌≡◌, ℕ, zero, suc, ◌^◌, ◌<◌, ◌≤◌, List, [], ◌∷◌, ◌++◌, length, drop, Option, Some, None, refl, sym, ap, subst, ◌∙◌, append_assoc, arith}
use Rattle.std.specs.Int.{w32, w64, to_be_bytes}
use Rattle.std.specs.List.{flat_map, AllByRecursion}
use Rattle.std.proofs.lemmas.List.{append-nil, drop_at, flat_map_more, length-append, nil_from_length}
use Rattle.cv_keep_record.specs.declared.event.KeptBy.{KeptBy}
use Rattle.cv_keep_record.specs.declared.event.KeptBy.TheVariants.{Line, Work}
use Rattle.cv_keep_record.specs.declared.event.KeptEvent.{KeptEvent}
use Rattle.cv_keep_record.specs.Record.{kind_byte, by_bytes, kept_bytes, FitsBy, Fits, IsRecord}
use Rattle.cv_keep_record.specs.code.Reading.{◌>>=◌, byte_at, front_at, number_at, kind_of, text_at, line_at, work_at, by_at, event_at}
use Rattle.cv_keep_record.proofs.FieldLemmas.{IsBytes, IsBytes-drop, IsBytes-rest, bind_some, some_is, Takes, Takes-then, wide32, wide64, byte_takes, front_takes, front_again, number_takes, number_again, text_bytes, text_takes, text_again, kind_takes, kind_again}

-- what a reader of the part after the tag took, given the tag
abbrev TakesBy : ℕ → List ℕ → KeptBy × List ℕ → Type 0
TakesBy tag bytes x = Takes (tag ∷ bytes) (by_bytes x.0) x.1 × FitsBy x.0

line_takes : (bytes : List ℕ) (x : KeptBy × List ℕ) → IsBytes bytes → line_at bytes ≡ Some x → TakesBy 0 bytes x
unfolding line_at
line_takes bytes x fits e =
    let a = bind_some (byte_at bytes) (λ lane. number_at w64 lane.1 >>= λ line. text_at line.1 >>= λ text. Some (Line lane.0 line.0 text.0, text.1)) x e in
    let b = bind_some (number_at w64 a.0.1) (λ line. text_at line.1 >>= λ text. Some (Line a.0.0 line.0 text.0, text.1)) x a.2 in
    let c = bind_some (text_at b.0.1) (λ text. Some (Line a.0.0 b.0.0 text.0, text.1)) x b.2 in
    let t0 = byte_takes bytes a.0.0 a.0.1 fits a.1 in
    let t1 = number_takes w64 (2 ^ 64) wide64 a.0.1 b.0.0 b.0.1 t0.0.rest_fits b.1 in
    let t2 = text_takes b.0.1 c.0.0 c.0.1 t1.0.rest_fits c.1 in
    let last = Takes-then a.0.1 (to_be_bytes w64 b.0.0) b.0.1 (text_bytes c.0.0) c.0.1 t1.0 t2.0 in
    let both = Takes-then bytes (a.0.0 ∷ []) a.0.1 (to_be_bytes w64 b.0.0 ++ text_bytes c.0.0) c.0.1 t0.0 last in
    let made : KeptBy × List ℕ = (Line a.0.0 b.0.0 c.0.0, c.0.1) in
    subst (λ (y : KeptBy × List ℕ). TakesBy 0 bytes y) (some_is made x c.2) (
      record { parts = ap (λ (l : List ℕ). 0 ∷ l) both.parts; rest_fits = both.rest_fits },
      (t0.1, t1.1, t2.1),
    )

work_takes : (bytes : List ℕ) (x : KeptBy × List ℕ) → IsBytes bytes → work_at bytes ≡ Some x → TakesBy 1 bytes x
unfolding work_at
work_takes bytes x fits e =
    let a = bind_some (number_at w32 bytes) (λ worker. byte_at worker.1 >>= λ byte. kind_of byte.0 >>= λ kind. front_at 32 byte.1 >>= λ layer. Some (Work worker.0 kind layer.0, layer.1)) x e in
    let b = bind_some (byte_at a.0.1) (λ byte. kind_of byte.0 >>= λ kind. front_at 32 byte.1 >>= λ layer. Some (Work a.0.0 kind layer.0, layer.1)) x a.2 in
    let k = bind_some (kind_of b.0.0) (λ kind. front_at 32 b.0.1 >>= λ layer. Some (Work a.0.0 kind layer.0, layer.1)) x b.2 in
    let c = bind_some (front_at 32 b.0.1) (λ layer. Some (Work a.0.0 k.0 layer.0, layer.1)) x k.2 in
    let t0 = number_takes w32 (2 ^ 32) wide32 bytes a.0.0 a.0.1 fits a.1 in
    let t1 = byte_takes a.0.1 b.0.0 b.0.1 t0.0.rest_fits b.1 in
    let t2 = front_takes 32 b.0.1 c.0.0 c.0.1 t1.0.rest_fits c.1 in
    let kind = subst (λ (n : ℕ). Takes a.0.1 (n ∷ []) b.0.1) (kind_takes b.0.0 k.0 k.1) t1.0 in
    let last = Takes-then a.0.1 (kind_byte k.0 ∷ []) b.0.1 c.0.0 c.0.1 kind t2.0 in
    let both = Takes-then bytes (to_be_bytes w32 a.0.0) a.0.1 (kind_byte k.0 ∷ c.0.0) c.0.1 t0.0 last in
    let made : KeptBy × List ℕ = (Work a.0.0 k.0 c.0.0, c.0.1) in
    subst (λ (y : KeptBy × List ℕ). TakesBy 1 bytes y) (some_is made x c.2) (
      record { parts = ap (λ (l : List ℕ). 1 ∷ l) both.parts; rest_fits = both.rest_fits },
      (t0.1, t2.1),
    )

by_takes : (bytes : List ℕ) (x : KeptBy × List ℕ) → IsBytes bytes → by_at bytes ≡ Some x → Takes bytes (by_bytes x.0) x.1 × FitsBy x.0
unfolding by_at
by_takes [] x fits e = absurd cc
by_takes (zero ∷ bytes) x fits e = line_takes bytes x (IsBytes-rest 0 bytes fits) e
by_takes (suc zero ∷ bytes) x fits e = work_takes bytes x (IsBytes-rest 1 bytes fits) e
by_takes (suc (suc n) ∷ bytes) x fits e = absurd cc

pub event_takes : (bytes : List ℕ) (x : KeptEvent × List ℕ) → IsBytes bytes → event_at bytes ≡ Some x → Takes bytes (kept_bytes x.0) x.1 × Fits x.0
unfolding event_at
event_takes bytes x fits e =
    let a = bind_some (number_at w64 bytes) (λ number. by_at number.1 >>= λ by. Some (record { number = number.0; by = by.0 }, by.1)) x e in
    let b = bind_some (by_at a.0.1) (λ by. Some (record { number = a.0.0; by = by.0 }, by.1)) x a.2 in
    let t0 = number_takes w64 (2 ^ 64) wide64 bytes a.0.0 a.0.1 fits a.1 in
    let t1 = by_takes a.0.1 b.0 t0.0.rest_fits b.1 in
    let both = Takes-then bytes (to_be_bytes w64 a.0.0) a.0.1 (by_bytes b.0.0) b.0.1 t0.0 t1.0 in
    let made : KeptEvent × List ℕ = (record { number = a.0.0; by = b.0.0 }, b.0.1) in
    subst (λ (y : KeptEvent × List ℕ). Takes bytes (kept_bytes y.0) y.1 × Fits y.0) (some_is made x b.2) (both, record { number = t0.1; by = t1.1 })

by_again : (by : KeptBy) (rest : List ℕ) → FitsBy by → by_at (by_bytes by ++ rest) ≡ Some (by, rest)
unfolding by_at line_at work_at
by_again (Line lane line text) rest fits =
    let regrouped : by_bytes (Line lane line text) ++ rest ≡ 0 ∷ lane ∷ (to_be_bytes w64 line ++ (text_bytes text ++ rest)) = refl in
    ap by_at regrouped ∙ rw (number_again w64 (2 ^ 64) wide64 line (text_bytes text ++ rest) fits.1, text_again text rest fits.2) refl
by_again (Work worker kind layer) rest fits =
    let regrouped : by_bytes (Work worker kind layer) ++ rest ≡ 1 ∷ (to_be_bytes w32 worker ++ (kind_byte kind ∷ (layer ++ rest))) = refl in
    ap by_at regrouped ∙ rw (number_again w32 (2 ^ 32) wide32 worker (kind_byte kind ∷ (layer ++ rest)) fits.0, kind_again kind, front_again 32 layer rest fits.1) refl

pub event_again : (event : KeptEvent) (rest : List ℕ) → Fits event → event_at (kept_bytes event ++ rest) ≡ Some (event, rest)
unfolding event_at
event_again event rest fits =
    let regrouped : kept_bytes event ++ rest ≡ to_be_bytes w64 event.number ++ (by_bytes event.by ++ rest) = append_assoc (to_be_bytes w64 event.number) (by_bytes event.by) rest in
    ap event_at regrouped ∙ rw (number_again w64 (2 ^ 64) wide64 event.number (by_bytes event.by ++ rest) fits.number, by_again event.by rest fits.by) refl

-- an event has at least eight bytes
kept_long : (event : KeptEvent) → 8 ≤ length (kept_bytes event)
kept_long event = omega (arith, length-append (to_be_bytes w64 event.number) (by_bytes event.by))

-- the same bytes, the same first event and the same rest
same_first : (a b : KeptEvent) (x y : List ℕ) → Fits a → Fits b → kept_bytes a ++ x ≡ kept_bytes b ++ y → (a ≡ b) × (x ≡ y)
same_first a b x y fa fb e =
    let both : (a, x) ≡ (b, y) = some_is (a, x) (b, y) (sym (event_again a x fa) ∙ ap event_at e ∙ event_again b y fb) in
    (ap (λ (p : KeptEvent × List ℕ). p.0) both, ap (λ (p : KeptEvent × List ℕ). p.1) both)

-- events that are spelled by the bytes of some events and a rest begin with these, and the remaining ones are spelled by the rest
pub rest_of : (front es : List KeptEvent) (rest : List ℕ) → AllByRecursion Fits front → AllByRecursion Fits es → flat_map kept_bytes front ++ rest ≡ flat_map kept_bytes es
    → (later : List KeptEvent) × (es ≡ front ++ later) × (rest ≡ flat_map kept_bytes later) × AllByRecursion Fits later
rest_of [] es rest ff fe e = (es, refl, e, fe)
rest_of (a ∷ front) [] rest ff fe e =
    absurd (omega (arith, ap length e, kept_long a, length-append (kept_bytes a ++ flat_map kept_bytes front) rest, length-append (kept_bytes a) (flat_map kept_bytes front)))
rest_of (a ∷ front) (b ∷ es) rest ff fe e =
    let one = same_first a b (flat_map kept_bytes front ++ rest) (flat_map kept_bytes es) ff.0 fe.0 (sym (append_assoc (kept_bytes a) (flat_map kept_bytes front) rest) ∙ e) in
    let more = rest_of front es rest ff.1 fe.1 one.1 in
    (more.0, ap (λ (l : List KeptEvent). b ∷ l) more.1 ∙ ap (λ (c : KeptEvent). c ∷ (front ++ more.0)) (sym one.0), more.2, more.3)

nothing_left : (later : List KeptEvent) → [] ≡ flat_map kept_bytes later → later ≡ []
nothing_left [] e = refl
nothing_left (a ∷ later) e = absurd (omega (arith, ap length e, kept_long a, length-append (kept_bytes a) (flat_map kept_bytes later)))

-- bytes are a record of one list at most
pub one_list : (bytes : List ℕ) (a b : List KeptEvent) → IsRecord bytes a → IsRecord bytes b → a ≡ b
one_list bytes a b ra rb =
    let more = rest_of a b [] ra.fit rb.fit (append-nil (flat_map kept_bytes a) ∙ sym ra.spelled ∙ rb.spelled) in
    sym (more.1 ∙ ap (λ (l : List KeptEvent). a ++ l) (nothing_left more.0 more.2) ∙ append-nil a)

is_none : {A : Type 0} (o : Option A) (x : A) → o ≡ None → o ≡ Some x → ⊥
is_none None x none found = absurd cc
is_none (Some y) x none found = absurd cc

-- bytes with no event at the front are not those of events
no_event : (later : List KeptEvent) (rest : List ℕ) → 0 < length rest → event_at rest ≡ None → rest ≡ flat_map kept_bytes later → AllByRecursion Fits later → ⊥
no_event [] rest some none e fits = omega (arith, some, ap length e)
no_event (a ∷ later) rest some none e fits =
    let found : event_at rest ≡ Some (a, flat_map kept_bytes later) = ap event_at e ∙ event_again a (flat_map kept_bytes later) fits.0 in
    is_none (event_at rest) (a, flat_map kept_bytes later) none found

-- the events so far are spelled by the bytes before the rest
abbrev pub IsReadTo : List ℕ → List KeptEvent → List ℕ → Type 0
IsReadTo bytes events rest = (bytes ≡ flat_map kept_bytes events ++ rest) × AllByRecursion Fits events

-- no event stands at the front of the rest, so the bytes are no record
pub no_record : (bytes : List ℕ) (events : List KeptEvent) (rest : List ℕ) → IsReadTo bytes events rest → 0 < length rest → None ≡ event_at rest → (es : List KeptEvent) → IsRecord bytes es → ⊥
no_record bytes events rest so some none es is =
    let more = rest_of events es rest so.1 is.fit (sym so.0 ∙ is.spelled) in
    no_event more.0 rest some (sym none) more.2 more.3

fits_more : (front : List KeptEvent) (e : KeptEvent) → AllByRecursion Fits front → Fits e → AllByRecursion Fits (front ++ e ∷ [])
fits_more [] e ff fe = (fe, tt)
fits_more (a ∷ front) e ff fe = (ff.0, fits_more front e ff.1 fe)

rest_fits : (bytes front rest : List ℕ) → IsBytes bytes → bytes ≡ front ++ rest → IsBytes rest
rest_fits bytes front rest fits whole =
    subst IsBytes (ap (λ (l : List ℕ). drop (length front) l) whole ∙ drop_at front rest (length front) refl) (IsBytes-drop (length front) bytes fits)

next_takes : (bytes : List ℕ) (events : List KeptEvent) (rest : List ℕ) (e : KeptEvent) (after : List ℕ) → IsBytes bytes → IsReadTo bytes events rest → Some (e, after) ≡ event_at rest
    → Takes rest (kept_bytes e) after × Fits e
next_takes bytes events rest e after fits so found = event_takes rest (e, after) (rest_fits bytes (flat_map kept_bytes events) rest fits so.0) (sym found)

-- one event more was read
pub reads_more : (bytes : List ℕ) (events : List KeptEvent) (rest : List ℕ) (e : KeptEvent) (after : List ℕ) → IsBytes bytes → IsReadTo bytes events rest → Some (e, after) ≡ event_at rest
    → IsReadTo bytes (events ++ e ∷ []) after
reads_more bytes events rest e after fits so found =
    let t = next_takes bytes events rest e after fits so found in
    let whole : bytes ≡ flat_map kept_bytes (events ++ e ∷ []) ++ after =
    so.0
    ∙ ap (λ (l : List ℕ). flat_map kept_bytes events ++ l) t.0.parts
    ∙ sym (append_assoc (flat_map kept_bytes events) (kept_bytes e) after)
    ∙ ap (λ (l : List ℕ). l ++ after) (flat_map_more kept_bytes [] events e) in
    (whole, fits_more events e so.1 t.1)

-- it took some bytes
pub reads_on : (bytes : List ℕ) (events : List KeptEvent) (rest : List ℕ) (e : KeptEvent) (after : List ℕ) → IsBytes bytes → IsReadTo bytes events rest → Some (e, after) ≡ event_at rest
    → length after < length rest
reads_on bytes events rest e after fits so found =
    let t = next_takes bytes events rest e after fits so found in
    omega (arith, ap length t.0.parts, kept_long e, length-append (kept_bytes e) after)

-- no bytes are a record of no events
pub reads_none : (bytes : List ℕ) (events : List KeptEvent) (rest : List ℕ) → IsReadTo bytes events rest → length rest ≡ 0 → length events ≡ 0 → (es : List KeptEvent) → IsRecord bytes es → ⊥
reads_none bytes [] rest so none empty es is =
    let nothing : bytes ≡ [] = so.0 ∙ nil_from_length rest none in
    let no_events : es ≡ [] = nothing_left es (sym nothing ∙ is.spelled) in
    omega (arith, is.some, ap length no_events)
reads_none bytes (e ∷ events) rest so none empty es is = absurd (omega (arith, empty))
