-- A round of patches, computed.
use Rattle.std.specs.Prelude.{◌≡◌, ℕ, ◌==◌, Bool, true, false, List, [], ◌∷◌, codes, None, Ok, refl}
use Rattle.std.specs.List.{AllZip}
use Rattle.std.specs.Str.{chars, is_utf8}
use Rattle.std.proofs.Common.{ap, subst, sym, ◌∙◌}
use Rattle.std.proofs.lemmas.Option.{same_Some}
use Rattle.serde_json.proofs.OnLiterals.{serde_json_on_literals}
use Rattle.cv_osv.specs.Records.{records_of}
use Rattle.cv_core_records.specs.declared.event.Act.TheVariants as name
use Rattle.cv_core_records.specs.declared.event.By.TheVariants as by
use Rattle.cv_core_records.specs.declared.event.EventEntry.{EventEntry}
use Rattle.cv_core_records.specs.declared.reply.Reply.{Reply}
use Rattle.cv_core_records.specs.declared.reply.Reply.TheVariants as reply
use Rattle.cv_request.specs.Request.{act_of, patch_of, request_line, request_of, update_of}
use Rattle.cv_request.specs.declared.request.Act.{Act as RequestAct}
use Rattle.cv_request.specs.declared.request.Act.TheVariants as request
use Rattle.cv_transcript.specs.declared.entry.Entry.{Entry}
use Rattle.cv_transcript.specs.declared.entry.Entry.TheVariants as entry
use Rattle.cv_core_machine.specs.History.{act_name}
use Rattle.cv_core_machine.specs.Scans.{Trees}
use Rattle.cv_core_machine.specs.Step.{step}
use Rattle.cv_core_machine.specs.declared.event.MachineEvent.{MachineEvent}
use Rattle.cv_core_machine.specs.declared.event.MachineEvent.TheVariants as whole
use Rattle.cv_serve_legal.specs.ParsedLine.{IsTaken, lines_requested, requests}
use Rattle.cv_serve_legal.specs.Parts.{lines_answered}
use Rattle.cv_serve_legal.specs.Replay.{IsEvent, Moment, beginning, moment_after}
use Rattle.cv_serve_legal.specs.Round.{IsLegalRound}
use Rattle.cv_serve_legal.specs.Rounds.{Round}
use Rattle.cv_serve_legal.specs.declared.parsed_line.ParsedLine.{ParsedLine}

-- no layer is there
abbrev trees : Trees
trees digest = None

-- a feed is made, and two patches are sent that know its first generation; a third one is of a feed that there is not
abbrev update_line : List ℕ
update_line = codes "{\"do\":\"update\",\"feed\":\"a\",\"advisories\":[]}"

abbrev patch_line : List ℕ
patch_line = codes "{\"do\":\"patch\",\"feed\":\"a\",\"base\":1,\"remove\":[\"Q\"],\"advisories\":[]}"

abbrev other_line : List ℕ
other_line = codes "{\"do\":\"patch\",\"feed\":\"x\",\"base\":0,\"advisories\":[]}"

abbrev lines : Round
lines = record { number = 1; text = update_line } ∷ record { number = 2; text = patch_line } ∷ record { number = 3; text = patch_line }
    ∷ record { number = 4; text = other_line } ∷ []

-- what is asked
abbrev update_a : RequestAct
update_a = request.Update (codes "a") []

abbrev patch_a : RequestAct
patch_a = request.Patch (codes "a") 1 [] (codes "Q" ∷ [])

abbrev patch_x : RequestAct
patch_x = request.Patch (codes "x") 0 [] []

updates : request_line update_line ≡ Ok (record { lane = 0; act = update_a })
unfolding is_utf8 chars serde_json_on_literals request_of act_of update_of records_of
updates = refl

patches : request_line patch_line ≡ Ok (record { lane = 0; act = patch_a })
unfolding is_utf8 chars serde_json_on_literals request_of act_of patch_of records_of
patches = refl

patches_other : request_line other_line ≡ Ok (record { lane = 0; act = patch_x })
unfolding is_utf8 chars serde_json_on_literals request_of act_of patch_of records_of
patches_other = refl

abbrev asks : ℕ → RequestAct → ParsedLine
asks number act = record { line = number; answer = Ok (record { lane = 0; act = act }) }

abbrev taken : List ParsedLine
taken = asks 1 update_a ∷ asks 2 patch_a ∷ asks 3 patch_a ∷ asks 4 patch_x ∷ []

all_taken : AllZip IsTaken lines taken
all_taken = (
  record { number = refl; answer = updates },
  (record { number = refl; answer = patches }, (record { number = refl; answer = patches }, (record { number = refl; answer = patches_other }, tt))),
)

-- the first patch is made, the second one comes too late, and the third one has no feed
abbrev stale : Reply → EventEntry
stale said = record { number = 3; by = by.Lane 0 3; act = name.Patch (codes "a"); reply = said }

abbrev entries : List Entry
entries =
    entry.Event (record { number = 1; by = by.Lane 0 1; act = name.Update (codes "a"); reply = reply.Updated 1 0 })
    ∷ entry.Event (record { number = 2; by = by.Lane 0 2; act = name.Patch (codes "a"); reply = reply.Updated 2 0 })
    ∷ entry.Event (stale (reply.StaleBase 2))
    ∷ entry.Event (record { number = 4; by = by.Lane 0 4; act = name.Patch (codes "x"); reply = reply.NoFeed }) ∷ []

abbrev update : MachineEvent
update = whole.Update (codes "a") []

abbrev patch : MachineEvent
patch = whole.Patch (codes "a") 1 [] (codes "Q" ∷ [])

abbrev other_patch : MachineEvent
other_patch = whole.Patch (codes "x") 0 [] []

abbrev updated : Moment
updated = moment_after trees beginning update

abbrev patched : Moment
patched = moment_after trees updated patch

abbrev passed : Moment
passed = moment_after trees patched patch

abbrev ended : Moment
ended = moment_after trees passed other_patch

answered : (lane : ℕ) → lines_answered lane entries ≡ lines_requested lane (requests taken)
answered lane = by_lane (0 == lane) refl where
  by_lane : (b : Bool) → (0 == lane) ≡ b → lines_answered lane entries ≡ lines_requested lane (requests taken)
  by_lane true is = rw is refl
  by_lane false is = rw is refl

legal : IsLegalRound trees 1 beginning lines entries ended
legal = record {
  taken = taken;
  answers = all_taken;
  others = entries;
  parts = refl;
  replays = (
    updated,
    record { act = update; source = refl; is = refl; next = refl },
    (
      patched,
      record { act = patch; source = refl; is = refl; next = refl },
      (
        passed,
        record { act = patch; source = refl; is = refl; next = refl },
        (ended, record { act = other_patch; source = refl; is = refl; next = refl }, refl),
      ),
    ),
  );
  ordered = ((tt, (tt, (tt, tt))), ((tt, (tt, tt)), ((tt, tt), (tt, tt))));
  lanes = answered;
  claims = λ layer. refl;
  claimers = (tt, (tt, (tt, (tt, tt))));
  works = λ worker. refl;
}

-- a patch that comes too late is told the generation of its feed, and no other
only_kept : (kept : ℕ) (after : Moment) → IsEvent trees (requests taken) patched (stale (reply.StaleBase kept)) after → kept ≡ 2
only_kept kept after h =
    let act : patch ≡ h.act = same_Some patch h.act h.source in
    let said : reply.StaleBase kept ≡ (step trees patched.state h.act).1 = ap (λ e. e.reply) h.is in
    let known : reply.StaleBase kept ≡ reply.StaleBase 2 = subst (λ a. reply.StaleBase kept ≡ (step trees patched.state a).1) (sym act) said in
    cc known

-- and it is not made
not_made : (generation rows : ℕ) (after : Moment) → IsEvent trees (requests taken) patched (stale (reply.Updated generation rows)) after → ⊥
not_made generation rows after h =
    let act : patch ≡ h.act = same_Some patch h.act h.source in
    let said : reply.Updated generation rows ≡ (step trees patched.state h.act).1 = ap (λ e. e.reply) h.is in
    let known : reply.Updated generation rows ≡ reply.StaleBase 2 = subst (λ a. reply.Updated generation rows ≡ (step trees patched.state a).1) (sym act) said in
    cc known

-- a line of a patch names the feed that the patch is of
only_feed : (feed : List ℕ) (number : ℕ) (said : Reply) (after : Moment)
    → IsEvent trees (requests taken) patched (record { number = number; by = by.Lane 0 3; act = name.Patch feed; reply = said }) after → feed ≡ codes "a"
only_feed feed number said after h =
    let act : patch ≡ h.act = same_Some patch h.act h.source in
    let named : name.Patch feed ≡ name.Patch (codes "a") = ap (λ e. e.act) h.is ∙ sym (ap act_name act) in
    cc named
