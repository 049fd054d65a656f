-- The events that are kept of entries, and their record.
use Rattle.std.specs.Prelude.{◌≡◌, ℕ, ◌+◌, ◌<◌, List, [], ◌∷◌, ◌++◌, get_or, length, map, take, refl}
use Rattle.std.specs.List.{AllByRecursion, AllZip, flat_map}
use Rattle.std.proofs.Common.{add-one, ap, arith, subst, sym, ◌∙◌}
use Rattle.std.proofs.Math.Seq.{take-suc}
use Rattle.std.proofs.lemmas.Grind.{flat_map-append}
use Rattle.std.proofs.lemmas.List.{map-append}
use Rattle.std.proofs.lemmas.List.Elements.{filter_map-append}
use Rattle.cv_seq.proofs.AllItems.{all_both}
use Rattle.cv_base.specs.Lines.{Line}
use Rattle.cv_core_records.specs.declared.event.Act.{Act}
use Rattle.cv_core_records.specs.declared.event.By.{By}
use Rattle.cv_core_records.specs.declared.event.By.TheVariants as by
use Rattle.cv_core_records.specs.declared.event.EventEntry.{EventEntry}
use Rattle.cv_transcript.specs.Order.{event_in, events_of}
use Rattle.cv_transcript.specs.declared.entry.Entry.{Entry}
use Rattle.cv_keep_record.specs.Record.{Fits, kept_bytes}
use Rattle.cv_serve_legal.specs.Whole.{whole_round}
use Rattle.cv_keep_rounds.specs.Rounds.{IsKeptBy, IsKeptEvent, IsRecordOf}
use Rattle.cv_keep_rounds.specs.code.Events.{kept_by, kept_event, kept_events}
use Rattle.cv_keep_rounds.specs.code.Lookup.{text_at}
use Rattle.cv_keep_rounds.proofs.TextLemmas.{text_is}

-- ---- the bytes so far

-- one entry more
more_events : (lines : List Line) (entries : List Entry) (i : ℕ) (entry : Entry) → i < length entries → entry ≡ get_or entries i entry
    → kept_events lines (take (i + 1) entries) ≡ kept_events lines (take i entries) ++ kept_events lines (entry ∷ [])
more_events lines entries i entry below is =
    let front = take i entries in
    let taken : take (i + 1) entries ≡ front ++ entry ∷ [] = rw add-one (take-suc entries i entry below ∙ ap (λ (x : Entry). front ++ x ∷ []) (sym is)) in
    ap (kept_events lines) taken ∙ ap (map (kept_event lines)) (filter_map-append event_in front (entry ∷ [])) ∙ map-append (kept_event lines) (events_of front) (events_of (entry ∷ []))

pub more_bytes : (lines : List Line) (entries : List Entry) (i : ℕ) (entry : Entry) (old new : List ℕ) → i < length entries → entry ≡ get_or entries i entry
    → old ≡ flat_map kept_bytes (kept_events lines (take i entries)) → new ≡ old ++ flat_map kept_bytes (kept_events lines (entry ∷ []))
    → new ≡ flat_map kept_bytes (kept_events lines (take (i + 1) entries))
more_bytes lines entries i entry old new below is before more =
    let one = kept_events lines (entry ∷ []) in
    more ∙ ap (λ (l : List ℕ). l ++ flat_map kept_bytes one) before ∙ sym (flat_map-append kept_bytes (kept_events lines (take i entries)) one)
    ∙ ap (flat_map kept_bytes) (sym (more_events lines entries i entry below is))

pub more_fit : (lines : List Line) (entries : List Entry) (i : ℕ) (entry : Entry) → i < length entries → entry ≡ get_or entries i entry
    → AllByRecursion Fits (kept_events lines (take i entries)) → AllByRecursion Fits (kept_events lines (entry ∷ []))
    → AllByRecursion Fits (kept_events lines (take (i + 1) entries))
more_fit lines entries i entry below is before more =
    subst (AllByRecursion Fits) (sym (more_events lines entries i entry below is)) (all_both Fits (kept_events lines (take i entries)) (kept_events lines (entry ∷ [])) before more)

-- ---- the record

kept_each : (lines : List Line) (events : List EventEntry) → AllZip (IsKeptEvent lines) events (map (kept_event lines) events)
kept_each lines [] = tt
kept_each lines (event ∷ events) = (record { number = refl; by = by_is event.by event.act }, kept_each lines events) where
  by_is : (submitter : By) (act : Act) → IsKeptBy lines submitter act (kept_by lines submitter act)
  by_is (by.Lane lane line) act = (text_at lines line, text_is lines line, refl)
  by_is (by.Worker worker) act = refl

-- entries without bytes have no event
pub no_event : (lines : List Line) (entries : List Entry) → [] ≡ flat_map kept_bytes (kept_events lines entries) → events_of entries ≡ []
no_event lines entries none = by_events (events_of entries) none where
  by_events : (events : List EventEntry) → [] ≡ flat_map kept_bytes (map (kept_event lines) events) → events ≡ []
  by_events [] none = refl
  by_events (event ∷ events) none = absurd cc

some_event : (lines : List Line) (events : List EventEntry) → 0 < length (flat_map kept_bytes (map (kept_event lines) events)) → 0 < length (map (kept_event lines) events)
some_event lines [] some = some
some_event lines (event ∷ events) some = omega arith

-- the bytes of entries, if there are any, are their record
pub record_of : (lines : List Line) (entries : List Entry) (bytes : List ℕ) → bytes ≡ flat_map kept_bytes (kept_events lines entries)
    → AllByRecursion Fits (kept_events lines entries) → 0 < length bytes → IsRecordOf (whole_round lines entries) bytes
record_of lines entries bytes is fit some = record {
  events = kept_events lines entries;
  each = kept_each lines (events_of entries);
  spelled = record { some = some_event lines (events_of entries) (subst (λ (l : List ℕ). 0 < length l) is some); fit = fit; spelled = is };
}
