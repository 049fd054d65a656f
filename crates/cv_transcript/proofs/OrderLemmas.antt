-- The order of entries: it is transitive, and entries in it are determined by their events and their reads.
use Rattle.std.specs.Prelude.{◌≡◌, Bool, true, false, cond, List, [], ◌∷◌, filter, map, refl}
use Rattle.std.specs.List.{AllByRecursion}
use Rattle.std.proofs.Common.{ap, arith, inl, subst, sym, ◌∙◌}
use Rattle.cv_base.proofs.AllItems.{all_kept}
use Rattle.cv_core_records.specs.declared.event.EventEntry.{EventEntry}
use Rattle.cv_core_records.specs.declared.read.ReadEntry.{ReadEntry}
use Rattle.cv_transcript.specs.declared.entry.Entry.{Entry}
use Rattle.cv_transcript.specs.declared.entry.Entry.TheVariants as entry
use Rattle.cv_transcript.specs.Order.{AreAscending, Precedes, events_of, reads_of}

pub Precedes-trans : (a b c : Entry) → Precedes a b → Precedes b c → Precedes a c
Precedes-trans (entry.Refused line error) b c h k = absurd h
Precedes-trans (entry.Event a) (entry.Refused line error) c h k = absurd h
Precedes-trans (entry.Read a) (entry.Refused line error) c h k = absurd h
Precedes-trans (entry.Event a) (entry.Event b) (entry.Refused line error) h k = absurd k
Precedes-trans (entry.Event a) (entry.Read b) (entry.Refused line error) h k = absurd k
Precedes-trans (entry.Read a) (entry.Event b) (entry.Refused line error) h k = absurd k
Precedes-trans (entry.Read a) (entry.Read b) (entry.Refused line error) h k = absurd k
Precedes-trans (entry.Event a) (entry.Event b) (entry.Event c) h k = omega (arith, h, k)
Precedes-trans (entry.Event a) (entry.Event b) (entry.Read c) h k = omega (arith, h, k)
Precedes-trans (entry.Event a) (entry.Read b) (entry.Event c) h k = omega (arith, h, k)
Precedes-trans (entry.Event a) (entry.Read b) (entry.Read c) h k = grind arith
Precedes-trans (entry.Read a) (entry.Event b) (entry.Event c) h k = omega (arith, h, k)
Precedes-trans (entry.Read a) (entry.Event b) (entry.Read c) h k = inl (omega (arith, h, k))
Precedes-trans (entry.Read a) (entry.Read b) (entry.Event c) h k = grind arith
Precedes-trans (entry.Read a) (entry.Read b) (entry.Read c) h k = grind arith

-- ---- events and reads in order

-- what holds of all entries holds of the first event
pub event_head : (P : Entry → Type 0) (event : EventEntry) (events : List EventEntry) (es : List Entry) → AllByRecursion P es → events_of es ≡ event ∷ events → P (entry.Event event)
event_head P event events [] h is = absurd (cc is)
event_head P event events (entry.Refused line error ∷ es) h is = event_head P event events es h.1 is
event_head P event events (entry.Event first ∷ es) h is = let same : first ≡ event = cc is in subst (λ e. P (entry.Event e)) same h.0
event_head P event events (entry.Read read ∷ es) h is = event_head P event events es h.1 is

-- and of the first read
read_head : (P : Entry → Type 0) (read : ReadEntry) (reads : List ReadEntry) (es : List Entry) → AllByRecursion P es → reads_of es ≡ read ∷ reads → P (entry.Read read)
read_head P read reads [] h is = absurd (cc is)
read_head P read reads (entry.Refused line error ∷ es) h is = read_head P read reads es h.1 is
read_head P read reads (entry.Event event ∷ es) h is = read_head P read reads es h.1 is
read_head P read reads (entry.Read first ∷ es) h is = let same : first ≡ read = cc is in subst (λ r. P (entry.Read r)) same h.0

-- an event and a read that stand before one another
no_both : (event : EventEntry) (read : ReadEntry) → Precedes (entry.Event event) (entry.Read read) → Precedes (entry.Read read) (entry.Event event) → ⊥
no_both event read h k = omega (arith, h, k)

-- entries in order are their events and their reads
pub same_parts : (es fs : List Entry) → AreAscending es → AreAscending fs → events_of es ≡ events_of fs → reads_of es ≡ reads_of fs → es ≡ fs
same_parts [] [] h k events reads = refl
same_parts [] (entry.Refused line error ∷ fs) h k events reads = absurd k.0
same_parts [] (entry.Event event ∷ fs) h k events reads = absurd (cc events)
same_parts [] (entry.Read read ∷ fs) h k events reads = absurd (cc reads)
same_parts (entry.Refused line error ∷ es) fs h k events reads = absurd h.0
same_parts (entry.Event event ∷ es) [] h k events reads = absurd (cc events)
same_parts (entry.Read read ∷ es) [] h k events reads = absurd (cc reads)
same_parts (entry.Event event ∷ es) (entry.Refused line error ∷ fs) h k events reads = absurd k.0
same_parts (entry.Read read ∷ es) (entry.Refused line error ∷ fs) h k events reads = absurd k.0
same_parts (entry.Event event ∷ es) (entry.Event other ∷ fs) h k events reads =
    let first : event ≡ other = cc events in
    let later : events_of es ≡ events_of fs = cc events in
    ap (λ e. entry.Event e ∷ es) first ∙ ap (λ xs. entry.Event other ∷ xs) (same_parts es fs h.2 k.2 later reads)
same_parts (entry.Read read ∷ es) (entry.Read other ∷ fs) h k events reads =
    let first : read ≡ other = cc reads in
    let later : reads_of es ≡ reads_of fs = cc reads in
    ap (λ r. entry.Read r ∷ es) first ∙ ap (λ xs. entry.Read other ∷ xs) (same_parts es fs h.2 k.2 events later)
same_parts (entry.Event event ∷ es) (entry.Read read ∷ fs) h k events reads =
    absurd (no_both event read (read_head (Precedes (entry.Event event)) read (reads_of fs) es h.1 reads)
    (event_head (Precedes (entry.Read read)) event (events_of es) fs k.1 (sym events)))
same_parts (entry.Read read ∷ es) (entry.Event event ∷ fs) h k events reads =
    absurd (no_both event read (read_head (Precedes (entry.Event event)) read (reads_of es) fs k.1 (sym reads))
    (event_head (Precedes (entry.Read read)) event (events_of fs) es h.1 events))

-- ---- parts of entries in order

-- what holds of all entries holds of the events
all_events : (P : Entry → Type 0) (es : List Entry) → AllByRecursion P es → AllByRecursion P (map entry.Event (events_of es))
all_events P [] h = tt
all_events P (entry.Refused line error ∷ es) h = all_events P es h.1
all_events P (entry.Event event ∷ es) h = (h.0, all_events P es h.1)
all_events P (entry.Read read ∷ es) h = all_events P es h.1

-- and of the reads
all_reads : (P : Entry → Type 0) (es : List Entry) → AllByRecursion P es → AllByRecursion P (map entry.Read (reads_of es))
all_reads P [] h = tt
all_reads P (entry.Refused line error ∷ es) h = all_reads P es h.1
all_reads P (entry.Event event ∷ es) h = all_reads P es h.1
all_reads P (entry.Read read ∷ es) h = (h.0, all_reads P es h.1)

-- the events of entries in order
pub events_ascend : (es : List Entry) → AreAscending es → AreAscending (map entry.Event (events_of es))
events_ascend [] h = tt
events_ascend (entry.Refused line error ∷ es) h = absurd h.0
events_ascend (entry.Event event ∷ es) h = (tt, all_events (Precedes (entry.Event event)) es h.1, events_ascend es h.2)
events_ascend (entry.Read read ∷ es) h = events_ascend es h.2

-- the reads of entries in order
pub reads_ascend : (es : List Entry) → AreAscending es → AreAscending (map entry.Read (reads_of es))
reads_ascend [] h = tt
reads_ascend (entry.Refused line error ∷ es) h = absurd h.0
reads_ascend (entry.Event event ∷ es) h = reads_ascend es h.2
reads_ascend (entry.Read read ∷ es) h = (tt, all_reads (Precedes (entry.Read read)) es h.1, reads_ascend es h.2)

-- some of the entries in order
pub filter_ascends : (p : Entry → Bool) (es : List Entry) → AreAscending es → AreAscending (filter p es)
filter_ascends p [] h = tt
filter_ascends p (e ∷ es) h = by_test (p e) (filter_ascends p es h.2) where
  by_test : (b : Bool) → AreAscending (filter p es) → AreAscending (cond b (e ∷ filter p es) (filter p es))
  by_test true rest = (h.0, all_kept (Precedes e) p es h.1, rest)
  by_test false rest = rest

-- an entry that adds nothing may be kept or not
skipped : {A : Type 0} (f : List Entry → A) (kept : Bool) (e : Entry) (es : List Entry) → f (e ∷ es) ≡ f es → f (cond kept (e ∷ es) es) ≡ f es
skipped f true e es skips = skips
skipped f false e es skips = refl

-- an entry that adds an item adds it if it is kept
given : {A : Type 0} (f : List Entry → List A) (kept : Bool) (e : Entry) (item : A) (es : List Entry) (items : List A) → f (e ∷ es) ≡ item ∷ f es → f es ≡ items
    → f (cond kept (e ∷ es) es) ≡ cond kept (item ∷ items) items
given f true e item es items gives rest = gives ∙ ap (λ items. item ∷ items) rest
given f false e item es items gives rest = rest

-- the events of some entries are those events
pub events_filter : (p : Entry → Bool) (es : List Entry) → events_of (filter p es) ≡ filter (λ event. p (entry.Event event)) (events_of es)
events_filter p [] = refl
events_filter p (entry.Refused line error ∷ es) = skipped events_of (p (entry.Refused line error)) (entry.Refused line error) (filter p es) refl ∙ events_filter p es
events_filter p (entry.Read read ∷ es) = skipped events_of (p (entry.Read read)) (entry.Read read) (filter p es) refl ∙ events_filter p es
events_filter p (entry.Event event ∷ es) = given events_of (p (entry.Event event)) (entry.Event event) event (filter p es) _ refl (events_filter p es)

-- the reads of some entries are those reads
pub reads_filter : (p : Entry → Bool) (es : List Entry) → reads_of (filter p es) ≡ filter (λ read. p (entry.Read read)) (reads_of es)
reads_filter p [] = refl
reads_filter p (entry.Refused line error ∷ es) = skipped reads_of (p (entry.Refused line error)) (entry.Refused line error) (filter p es) refl ∙ reads_filter p es
reads_filter p (entry.Event event ∷ es) = skipped reads_of (p (entry.Event event)) (entry.Event event) (filter p es) refl ∙ reads_filter p es
reads_filter p (entry.Read read ∷ es) = given reads_of (p (entry.Read read)) (entry.Read read) read (filter p es) _ refl (reads_filter p es)
