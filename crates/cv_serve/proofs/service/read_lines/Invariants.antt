-- The lines read so far, with those that are not yet read, are all, and each took of the room. The reader counts what it took.
use Rattle.std.specs.Prelude.{◌≡◌, ℕ, ◌+◌, ◌^◌, ◌≤◌, true, false, List, [], length}
use Rattle.std.specs.Io.KnownBytes.{IsAtEnd}
use Rattle.cv_io.specs.Reader.{reading, room_of}
use Rattle.cv_scan_input.specs.code.TakenParts.{IsTakenTo}
use Rattle.cv_core_machine.specs.Scans.{StatesEveryLayer, trees_of}
use Rattle.cv_serve_legal.specs.Replay.{Moment}
use Rattle.cv_serve_round.specs.Round.{moment_of}
use Rattle.cv_serve_round.specs.Begun.{IsPrepared}
use Rattle.cv_serve.specs.code.Reading.{AreTaken, Done, HasRead}
use Rattle.cv_serve.proofs.service.read_lines.Given as goal

abbrev pub invariant-loop-text : goal.invariant-loop-text
invariant-loop-text g l = record {
  not_spent : l.reader.spent ≡ false;
  lines : (texts : List (List ℕ)) × (length texts ≡ l.number) × HasRead (reading l.fn.reader (g.S.Source.remaining l.fn.input)) (reading l.reader (g.S.Source.remaining l.input)) texts
      × AreTaken l.reader (g.S.Source.remaining l.fn.input) (g.S.Source.remaining l.input) texts
      × ((workers : ℕ) → length l.fn.desks ≡ workers → (start : Moment)
      → Done (StatesEveryLayer g.D.Desk.tree) (trees_of g.D.Desk.tree) workers start g.D.Desk.listings g.D.Desk.faults (g.P.RoundKeeper.ends g.D.Desk.tree) [] l.fn.round.taken l.fn.round.bytes (g.P.Keeper.notes l.fn.round.noted) (moment_of (trees_of g.D.Desk.tree) g.L.Identity.limits l.fn.service.hub) l.fn.desks l.fn.desks ((l.fn.keeper, l.fn.disk), g.K.Sink.contents l.fn.output) ((l.fn.keeper, l.fn.disk), g.K.Sink.contents l.fn.output)
      → Done (StatesEveryLayer g.D.Desk.tree) (trees_of g.D.Desk.tree) workers start g.D.Desk.listings g.D.Desk.faults (g.P.RoundKeeper.ends g.D.Desk.tree) texts l.round.taken l.round.bytes (g.P.Keeper.notes l.round.noted) (moment_of (trees_of g.D.Desk.tree) g.L.Identity.limits l.service.hub) l.fn.desks l.desks ((l.fn.keeper, l.fn.disk), g.K.Sink.contents l.fn.output) ((l.keeper, l.disk), g.K.Sink.contents l.output));
  seen : l.reader.ended ≡ true → IsAtEnd (g.S.Source.remaining l.input);
  limits : (l.reader.max_line ≡ 67108864) × (l.reader.max_input ≡ 2 ^ 36);
  taken : IsTakenTo l.fn.reader.taken l.reader.taken (g.S.Source.remaining l.fn.input) (g.S.Source.remaining l.input);
  prepared : IsPrepared g.D.Desk.listings g.L.Ledger.parts l.service.hub l.service.seats.items l.desks;
  ready : g.P.Keeper.is_ready (l.keeper, l.disk);
  count : length l.desks ≡ length l.fn.desks;
  space : l.number + room_of l.reader ≤ 2 ^ 36;
  read_later : g.S.Source.faults l.fn.input ≤ g.S.Source.faults l.input;
  write_later : g.K.Sink.faults l.fn.output ≤ g.K.Sink.faults l.output;
}

abbrev pub decreases-loop-text : goal.decreases-loop-text
decreases-loop-text g l = room_of l.reader
