use Rattle.std.specs.Prelude.{◌≡◌, ◌+◌, List, Err, IfSome, drop, get_or, length, slice_set, refl}
use Rattle.std.proofs.Common.{ap, inl, inr, subst, sym, ◌∙◌}
use Rattle.std.proofs.lemmas.List.{take_at}
use Rattle.cv_core_machine.specs.Scans.{trees_of}
use Rattle.cv_hub_seats.specs.Events.{acts_of}
use Rattle.cv_hub.specs.Seats.{SeatView}
use Rattle.cv_keep_replay.specs.Good.{ListsAtMost}
use Rattle.cv_keep_replay.specs.Kept.{index_count}
use Rattle.cv_serve_round.specs.Begun.{IsPrepared}
use Rattle.cv_serve_round.specs.Round.{moment_of}
use Rattle.cv_serve_kept.specs.Ends.{KeptEnds}
use Rattle.cv_serve_kept.specs.Lines.{bad_keep_text, resumed_text}
use Rattle.cv_serve_kept.specs.declared.stop.Stop.TheVariants as stop
use Rattle.cv_serve_kept.proofs.Keepers.{of_file, of_records}
use Rattle.cv_serve_kept.proofs.Resuming.{is_bad, is_line, is_prepared, is_start}
use Rattle.cv_serve_kept.proofs.Starting.{handed_on, output_ends, used_first}
use Rattle.cv_serve_kept.proofs.start.resume.Goals as goal

-- ---- the service goes on

pub returns-in_ok-write_resumed-in-Ok-clause-resumed : goal.returns-in_ok-write_resumed-in-Ok-clause-resumed
returns-in_ok-write_resumed-in-Ok-clause-resumed g c =
    let file = g.J.Disk.contents c.args.disk.now in
    let hub = c.replay.new.hub in
    record {
      list = hub;
      is_start = is_start g.D.Desk.tree g.L.Identity.limits file hub c.requires.limits c.in-Ok.ensures.replayed;
      line = resumed_text c.in-Ok.resumed.events c.in-Ok.resumed.generation;
      is_line = is_line g.D.Desk.tree g.L.Identity.limits file hub c.requires.limits c.in-Ok.resumed.events c.in-Ok.resumed.generation c.in-Ok.ensures.events c.in-Ok.ensures.generation;
      appended = c.in_ok-write_resumed-in-Ok.ensures.ok;
      listed = used_first g.D.Desk.listings g.D.Desk.faults (λ before now. now ≡ before + index_count (acts_of hub)) c.args.desks.now c.index-desks-0.result c.replay.new.desk
          c.requires.workers.0 c.in-Ok.ensures.listed c.replay.ensures.desk_cause.later;
    }

pub returns-in_ok-write_resumed-in-Ok-clause-prepared : goal.returns-in_ok-write_resumed-in-Ok-clause-prepared
returns-in_ok-write_resumed-in-Ok-clause-prepared g c =
    let hub = c.replay.new.hub in
    let seats = c.replay.new.seats in
    let count = c.replay.auto.seats ∙ ap length c.as_mut_slice-seats.ensures.value in
    subst (λ (s : List SeatView). IsPrepared g.D.Desk.listings g.L.Ledger.parts hub s (slice_set c.args.desks.now 0 c.replay.new.desk))
    (sym (take_at seats (drop (length seats) c.args.service.now.seats.items) c.args.service.now.seats.len (c.replay.auto.seats ∙ c.as_mut_slice-seats.ensures.len)))
    (is_prepared g.D.Desk.listings g.L.Ledger.parts hub seats c.args.desks.now c.replay.new.desk c.requires.workers.0 c.requires.workers.1 c.requires.room c.in-Ok.ensures.room
    c.in-Ok.ensures.numbered c.in-Ok.ensures.receipts (count ∙ c.requires.seats.count) (count ∙ c.requires.seats.all))

-- ---- it ends

pub returns-in_err-write_resumed-in-Ok-clause-ended : goal.returns-in_err-write_resumed-in-Ok-clause-ended
returns-in_err-write_resumed-in-Ok-clause-ended g c = λ workers remaining.
    let file = g.J.Disk.contents c.args.disk.now in
    let hub = c.replay.new.hub in
    let desks_now = slice_set c.args.desks.now 0 c.replay.new.desk in
    let error = c.in_err-write_resumed-in-Ok.field-0.0 in
    handed_on _ (λ ended. KeptEnds g.D.Desk.tree workers g.D.Desk.listings g.D.Desk.faults
    (record { remaining = remaining; written = g.K.Sink.contents c.args.output.now; kept = of_file file; desks = c.args.desks.now })
    (record { remaining = remaining; written = g.K.Sink.contents c.write_resumed.new.output; kept = of_file (g.J.Disk.contents c.replay.new.disk); desks = desks_now }) ended)
    (stop.Output error) c.from_residual.result c.from_residual.ensures.1
    (output_ends g.D.Desk.listings g.D.Desk.faults g.D.Desk.tree workers _ _ error (record {
      unread = refl;
      wrote = (
        resumed_text c.in-Ok.resumed.events c.in-Ok.resumed.generation,
        inl (
          hub,
          moment_of (trees_of g.D.Desk.tree) g.L.Identity.limits hub,
          is_start g.D.Desk.tree g.L.Identity.limits file hub c.requires.limits c.in-Ok.ensures.replayed,
          is_line g.D.Desk.tree g.L.Identity.limits file hub c.requires.limits c.in-Ok.resumed.events c.in-Ok.resumed.generation c.in-Ok.ensures.events c.in-Ok.ensures.generation,
        ),
        c.in_err-write_resumed-in-Ok.ensures.err,
      );
      same = ap of_file c.replay.ensures.contents;
      listed = used_first g.D.Desk.listings g.D.Desk.faults (λ before now. IfSome (of_file file) (λ rs. ListsAtMost rs before now)) c.args.desks.now c.index-desks-0.result c.replay.new.desk
          c.requires.workers.0 (of_records file (λ rs. ListsAtMost rs (g.D.Desk.listings (get_or c.args.desks.now 0 c.index-desks-0.result)) (g.D.Desk.listings c.replay.new.desk)) c.replay.ensures.lists_at_most)
          c.replay.ensures.desk_cause.later;
    }))

pub returns-in_err-write_bad_keep-in-Err-BadKeep-clause-ended : goal.returns-in_err-write_bad_keep-in-Err-BadKeep-clause-ended
returns-in_err-write_bad_keep-in-Err-BadKeep-clause-ended g c = λ workers remaining.
    let file = g.J.Disk.contents c.args.disk.now in
    let desks_now = slice_set c.args.desks.now 0 c.replay.new.desk in
    let place = c.in-Err-BadKeep.place in
    let error = c.in_err-write_bad_keep-in-Err-BadKeep.field-0.0 in
    handed_on _ (λ ended. KeptEnds g.D.Desk.tree workers g.D.Desk.listings g.D.Desk.faults
    (record { remaining = remaining; written = g.K.Sink.contents c.args.output.now; kept = of_file file; desks = c.args.desks.now })
    (record { remaining = remaining; written = g.K.Sink.contents c.write_bad_keep.new.output; kept = of_file (g.J.Disk.contents c.replay.new.disk); desks = desks_now }) ended)
    (stop.Output error) c.from_residual-in_err-write_bad_keep-in-Err-BadKeep.result c.from_residual-in_err-write_bad_keep-in-Err-BadKeep.ensures.1
    (output_ends g.D.Desk.listings g.D.Desk.faults g.D.Desk.tree workers _ _ error (record {
      unread = refl;
      wrote = (
        bad_keep_text place,
        inr (is_bad g.D.Desk.tree g.L.Identity.limits file c.replay.new.hub c.requires.limits place (λ known. c.replay.ensures.bad_keep known place (c.in-Err-BadKeep.is ∙ ap (λ e. Err e) c.in-Err-BadKeep.field-0-is))),
        c.in_err-write_bad_keep-in-Err-BadKeep.ensures.err,
      );
      same = ap of_file c.replay.ensures.contents;
      listed = used_first g.D.Desk.listings g.D.Desk.faults (λ before now. IfSome (of_file file) (λ rs. ListsAtMost rs before now)) c.args.desks.now c.index-desks-0.result c.replay.new.desk
          c.requires.workers.0 (of_records file (λ rs. ListsAtMost rs (g.D.Desk.listings (get_or c.args.desks.now 0 c.index-desks-0.result)) (g.D.Desk.listings c.replay.new.desk)) c.replay.ensures.lists_at_most)
          c.replay.ensures.desk_cause.later;
    }))

pub returns-in_ok-write_bad_keep-in-Err-BadKeep-clause-ended : goal.returns-in_ok-write_bad_keep-in-Err-BadKeep-clause-ended
returns-in_ok-write_bad_keep-in-Err-BadKeep-clause-ended g c = λ workers remaining.
    let file = g.J.Disk.contents c.args.disk.now in
    let place = c.in-Err-BadKeep.place in
    record {
      unread = refl;
      wrote = (
        bad_keep_text place,
        is_bad g.D.Desk.tree g.L.Identity.limits file c.replay.new.hub c.requires.limits place (λ known. c.replay.ensures.bad_keep known place (c.in-Err-BadKeep.is ∙ ap (λ e. Err e) c.in-Err-BadKeep.field-0-is)),
        c.in_ok-write_bad_keep-in-Err-BadKeep.ensures.ok,
      );
      same = ap of_file c.replay.ensures.contents;
      listed = used_first g.D.Desk.listings g.D.Desk.faults (λ before now. IfSome (of_file file) (λ rs. ListsAtMost rs before now)) c.args.desks.now c.index-desks-0.result c.replay.new.desk
          c.requires.workers.0 (of_records file (λ rs. ListsAtMost rs (g.D.Desk.listings (get_or c.args.desks.now 0 c.index-desks-0.result)) (g.D.Desk.listings c.replay.new.desk)) c.replay.ensures.lists_at_most)
          c.replay.ensures.desk_cause.later;
    }
