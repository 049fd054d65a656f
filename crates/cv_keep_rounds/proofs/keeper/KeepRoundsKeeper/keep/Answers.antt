use Rattle.std.proofs.Common.{◌≡◌, ◌+◌, ◌≤◌, ◌^◌, length, IfSome, ◌++◌, [], ◌∷◌, ℕ, List, inr, option_map, subst, sym, ◌∙◌}
use Rattle.std.specs.List.{AllByRecursion, flat_map}
use Rattle.cv_base.specs.Lines.{Line}
use Rattle.cv_keep.specs.Records.{gate_after, records}
use Rattle.cv_keep_record.specs.Record.{Fits, kept_bytes}
use Rattle.cv_serve_legal.specs.Whole.{whole_round}
use Rattle.cv_keep_rounds.specs.Keeping.{IsRefused}
use Rattle.cv_keep_rounds.specs.code.Events.{kept_events}
use Rattle.cv_keep_rounds.proofs.EventLemmas.{no_event, record_of}
use Rattle.cv_keep_rounds.proofs.KeepLemmas.{kept_none, kept_one, no_bytes, on_err, on_ok_three, some_bytes}
use Rattle.cv_keep_rounds.proofs.keeper.KeepRoundsKeeper.keep.Goals as goal

pub returns-then-is_empty-clause-kept : goal.returns-then-is_empty-clause-kept
returns-then-is_empty-clause-kept g c lines is =
    let entries = c.args.entries.now in
    let bytes = c.in_ok-bytes.bytes in
    let spelled = subst (λ (l : List Line). bytes.items ≡ flat_map kept_bytes (kept_events l entries)) is c.in_ok-bytes.ensures.bytes in
    let none = no_event lines entries (no_bytes bytes.items bytes.len bytes.ok.0 (sym c.is_empty.ensures ∙ c.if-is_empty.true) ∙ spelled) in
    kept_none g.J.Disk.contents g.J.Disk.faults (c.args.self.now, c.args.disk.now) (whole_round lines entries) none c.requires.ready.no_error

pub returns-clause-kept : goal.returns-clause-kept
returns-clause-kept g c lines is =
    let entries = c.args.entries.now in
    let bytes = c.in_ok-bytes.bytes in
    let spelled = subst (λ (l : List Line). bytes.items ≡ flat_map kept_bytes (kept_events l entries)) is c.in_ok-bytes.ensures.bytes in
    let fit = subst (λ (l : List Line). AllByRecursion Fits (kept_events l entries)) is c.in_ok-bytes.ensures.fit in
    let some = some_bytes bytes.items bytes.len bytes.ok.0 (sym c.is_empty.ensures ∙ c.if-is_empty.false) in
    let record_is = record_of lines entries bytes.items spelled fit some in
    on_ok_three c.append.result
    (λ ready kept fits. kept_one g.J.Disk.contents g.J.Disk.faults (c.args.self.now, c.args.disk.now) (c.append.new.self, c.append.new.disk) (whole_round lines entries) bytes.items record_is
    (subst (λ (l : List ℕ). option_map records (g.J.Disk.contents c.append.new.disk) ≡ option_map (λ b. records b ++ l ∷ []) (g.J.Disk.contents c.args.disk.now)) c.as_slice.ensures.value kept)
    (subst (λ (l : List ℕ). IfSome (g.J.Disk.contents c.args.disk.now) (λ b. gate_after (records b) + 10 + length l ≤ 2 ^ 40)) c.as_slice.ensures.value fits)
    ready.no_error c.append.ensures.faults)
    c.append.ensures.ready c.append.ensures.kept c.append.ensures.fits

pub returns-clause-not_kept : goal.returns-clause-not_kept
returns-clause-not_kept g c lines is =
    let entries = c.args.entries.now in
    let bytes = c.in_ok-bytes.bytes in
    let spelled = subst (λ (l : List Line). bytes.items ≡ flat_map kept_bytes (kept_events l entries)) is c.in_ok-bytes.ensures.bytes in
    let fit = subst (λ (l : List Line). AllByRecursion Fits (kept_events l entries)) is c.in_ok-bytes.ensures.fit in
    let some = some_bytes bytes.items bytes.len bytes.ok.0 (sym c.is_empty.ensures ∙ c.if-is_empty.false) in
    on_err c.append.result
    (λ refused. inr (
      bytes.items,
      record_of lines entries bytes.items spelled fit some,
      subst (λ (l : List ℕ). IsRefused g.J.Disk.contents g.J.Disk.faults (c.args.self.now, c.args.disk.now) l (c.append.new.self, c.append.new.disk)) c.as_slice.ensures.value refused,
    ))
    c.append.ensures.refused
