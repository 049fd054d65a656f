use Rattle.std.proofs.Common.{◌≡◌, length, map, Option, IfSome, ap, sym, subst, ◌∙◌}
use Rattle.cv_keep_replay.specs.code.Alone.{IsAlone}
use Rattle.cv_keep_replay.specs.code.Counts.{generation_after, leaves_claims}
use Rattle.cv_keep_replay.specs.code.Ready.{IsReadyRecord, named_of}
use Rattle.cv_keep_replay.proofs.Adding.{Got, adds_bad, adds_record, adds_resumed, holds_not, not_holds}
use Rattle.cv_keep_replay.proofs.Alone.{alone_after, alone_first, first_numbered}
use Rattle.cv_keep_replay.proofs.record.replay_record.Goals as goal

pub take_events-entries-requires-clause-numbered : goal.take_events-entries-requires-clause-numbered
take_events-entries-requires-clause-numbered g c =
    first_numbered c.args.hub.now c.args.seats.now c.submit_first.new.seats (map named_of c.in-Some.events.items) c.requires.alone c.in_ok-submit_first.ensures.submitted

pub returns-clause-added : goal.returns-clause-added
returns-clause-added g c =
    let named = map named_of c.in-Some.events.items in
    let taken = c.take_events-entries in
    let after = alone_after c.args.hub.now taken.new.self c.args.seats.now c.submit_first.new.seats named c.requires.alone c.in_ok-submit_first.ensures.submitted
    taken.ensures.seen taken.ensures.receipts taken.ensures.of_seats in
    let got : Got g.D.Desk.tree g.L.Identity.limits c.args.hub.now taken.new.self taken.result.items named = record {
      own = after.0;
      list_is = after.1;
      named_is = after.2;
      before = c.requires.replayed;
      after = taken.ensures.replayed;
      entries_are = taken.ensures.entries;
    } in
    let ready = subst (λ (o : Option _). IfSome o (λ events. IsReadyRecord c.args.resumed.now.events c.args.bytes.now (map named_of events.items))) c.in-Some.is c.in_ok-events.ensures.found in
    let told : c.leaves_claims.result ≡ leaves_claims taken.result.items = c.leaves_claims.ensures ∙ ap leaves_claims c.as_slice-2.ensures.value in
    λ good.
    adds_record g.D.Desk.tree g.L.Identity.limits c.args.hub.now taken.new.self taken.result.items named got c.args.bytes.now c.args.resumed.now
    (g.D.Desk.listings c.args.desk.now) (g.D.Desk.listings c.submit_first.new.desk) c.requires.resumed ready (sym told ∙ holds_not c.leaves_claims.result good) c.in_ok-submit_first.ensures.listed

pub returns-clause-bad : goal.returns-clause-bad
returns-clause-bad g c =
    let named = map named_of c.in-Some.events.items in
    let taken = c.take_events-entries in
    let after = alone_after c.args.hub.now taken.new.self c.args.seats.now c.submit_first.new.seats named c.requires.alone c.in_ok-submit_first.ensures.submitted
    taken.ensures.seen taken.ensures.receipts taken.ensures.of_seats in
    let got : Got g.D.Desk.tree g.L.Identity.limits c.args.hub.now taken.new.self taken.result.items named = record {
      own = after.0;
      list_is = after.1;
      named_is = after.2;
      before = c.requires.replayed;
      after = taken.ensures.replayed;
      entries_are = taken.ensures.entries;
    } in
    let ready = subst (λ (o : Option _). IfSome o (λ events. IsReadyRecord c.args.resumed.now.events c.args.bytes.now (map named_of events.items))) c.in-Some.is c.in_ok-events.ensures.found in
    let told : c.leaves_claims.result ≡ leaves_claims taken.result.items = c.leaves_claims.ensures ∙ ap leaves_claims c.as_slice-2.ensures.value in
    λ known bad others after_all.
    adds_bad g.D.Desk.tree g.L.Identity.limits c.args.hub.now taken.new.self taken.result.items named got c.args.bytes.now c.args.resumed.now
    (c.record_law.ensures c.args.bytes.now) c.requires.resumed ready (sym told ∙ not_holds c.leaves_claims.result bad) known others after_all

pub returns-clause-alone : goal.returns-clause-alone
returns-clause-alone g c =
    let taken = c.take_events-entries in
    let after = alone_after c.args.hub.now taken.new.self c.args.seats.now c.submit_first.new.seats (map named_of c.in-Some.events.items) c.requires.alone c.in_ok-submit_first.ensures.submitted
    taken.ensures.seen taken.ensures.receipts taken.ensures.of_seats in
    λ good. subst (IsAlone taken.new.self) (sym taken.ensures.seats) after.3

pub returns-clause-resumed : goal.returns-clause-resumed
returns-clause-resumed g c =
    let named = map named_of c.in-Some.events.items in
    let taken = c.take_events-entries in
    let after = alone_after c.args.hub.now taken.new.self c.args.seats.now c.submit_first.new.seats named c.requires.alone c.in_ok-submit_first.ensures.submitted
    taken.ensures.seen taken.ensures.receipts taken.ensures.of_seats in
    let got : Got g.D.Desk.tree g.L.Identity.limits c.args.hub.now taken.new.self taken.result.items named = record {
      own = after.0;
      list_is = after.1;
      named_is = after.2;
      before = c.requires.replayed;
      after = taken.ensures.replayed;
      entries_are = taken.ensures.entries;
    } in
    let told : c.leaves_claims.result ≡ leaves_claims taken.result.items = c.leaves_claims.ensures ∙ ap leaves_claims c.as_slice-2.ensures.value in
    let alone : IsAlone taken.new.self taken.new.seats = subst (IsAlone taken.new.self) (sym taken.ensures.seats) after.3 in
    λ good.
    adds_resumed g.D.Desk.tree g.L.Identity.limits c.args.hub.now taken.new.self taken.result.items named got c.step_laws.ensures.generation c.args.resumed.now
    (record { events = c.events_seen-resumed.result; generation = c.generation_after-resumed.result }) c.requires.resumed
    (c.events_seen-resumed.ensures.count ∙ ap length (alone_first taken.new.self taken.new.seats alone)) c.events_seen-resumed.ensures.at_most
    (c.generation_after-resumed.ensures ∙ ap (generation_after c.args.resumed.now.generation) c.as_slice.ensures.value)
    (sym told ∙ holds_not c.leaves_claims.result good)
