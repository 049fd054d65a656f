use Rattle.std.proofs.Common.{rules, refl, ◌≡◌, ◌∙◌, ap, sym, length, slice_get, option_and_then, Option, Some, arith}
use Rattle.std.proofs.lemmas.Option.{slice_get_read, slice_get_within}
use Rattle.std.proofs.lemmas.Slice.Zip.{AllZip-long}
use Rattle.std.specs.Option.{option_map}
use Rattle.cv_match.specs.Prepared.{Prepared}
use Rattle.cv_match.specs.Prepared.{prepared_for}
use Rattle.cv_match_feed.specs.code.Slots.{IsSlot}
use Rattle.cv_match_feed.proofs.SlotLemmas.{filled, slot_holds}
use Rattle.cv_match_feed.proofs.slots.prepared_at.Goals as goal

pub returns-in-Some-2-clause-record : goal.returns-in-Some-2-clause-record
returns-in-Some-2-clause-record c =
    let at : slice_get c.args.advisories.now c.args.index ≡ Some c.in-Some.advisory.now = slice_get_read c.args.advisories.now (length c.args.advisories.now) c.args.index c.in-Some.advisory.now refl c.in-Some.ensures.lookup.3.0 c.in-Some.ensures.lookup.1 in
    let kept : option_and_then (λ (slot : Option Prepared). slot) (slice_get c.args.slots.now.items c.args.index) ≡ Some c.in-Some-2.prepared =
    search (rules, c.in_ok-prepared.ensures, c.in-Some-2.is, c.deref.ensures.value) in
    ap Some (slot_holds c.args.kind c.args.slots.now.items c.args.advisories.now c.args.index c.in-Some.advisory.now c.in-Some-2.prepared c.requires at kept)
    ∙ ap (option_map (prepared_for c.args.kind)) (sym at)

pub index_mut-requires : goal.index_mut-requires
index_mut-requires c =
    let at : slice_get c.args.advisories.now c.args.index ≡ Some c.in-Some.advisory.now = slice_get_read c.args.advisories.now (length c.args.advisories.now) c.args.index c.in-Some.advisory.now refl c.in-Some.ensures.lookup.3.0 c.in-Some.ensures.lookup.1 in
    let within = slice_get_within c.args.advisories.now c.args.index c.in-Some.advisory.now at in
    let long = AllZip-long (IsSlot c.args.kind) c.args.slots.now.items c.args.advisories.now c.requires in
    let items = ap length c.deref.ensures.value in
    let len = c.deref.ensures.len in
    omega (arith, within, long, items, len)

pub returns-clause-slots : goal.returns-clause-slots
returns-clause-slots c =
    let at : slice_get c.args.advisories.now c.args.index ≡ Some c.in-Some.advisory.now = slice_get_read c.args.advisories.now (length c.args.advisories.now) c.args.index c.in-Some.advisory.now refl c.in-Some.ensures.lookup.3.0 c.in-Some.ensures.lookup.1 in
    let fresh : c.in_ok-clone.field-0 ≡ prepared_for c.args.kind c.in-Some.advisory.now = search (rules, c.in_ok-clone.ensures.cases, c.in_ok-prepared-2.ensures) in
    filled c.args.kind c.args.slots.now.items c.args.advisories.now c.args.index c.in-Some.advisory.now c.in_ok-clone.field-0 c.requires at fresh

pub returns-clause-record : goal.returns-clause-record
returns-clause-record c =
    let at : slice_get c.args.advisories.now c.args.index ≡ Some c.in-Some.advisory.now = slice_get_read c.args.advisories.now (length c.args.advisories.now) c.args.index c.in-Some.advisory.now refl c.in-Some.ensures.lookup.3.0 c.in-Some.ensures.lookup.1 in
    ap Some c.in_ok-prepared-2.ensures ∙ ap (option_map (prepared_for c.args.kind)) (sym at)
