use Rattle.std.specs.Prelude.{map, string_bytes}
use Rattle.cv_core_machine.specs.Scans.{StatesEveryLayer, trees_of}
use Rattle.cv_serve_round.proofs.Written.{legal_texts}
use Rattle.cv_serve_round.proofs.rounds.round_lines.Goals as goal

pub returns-clause-legal : goal.returns-clause-legal
returns-clause-legal g c = λ workers many.
    legal_texts (StatesEveryLayer g.D.Desk.tree) (trees_of g.D.Desk.tree) workers g.D.Desk.listings g.D.Desk.faults (map (λ text. string_bytes text) c.in_ok-lines.lines.items) _ c.args.taken.items _ _
    c.args.desks.now c.run_round.new.desks c.as_slice.result.now c.in_ok-entries.entries.items many c.as_slice.ensures.value c.in_ok-entries.ensures.legal c.in_ok-entries.ensures.desks c.in_ok-lines.ensures.text c.in_ok-lines.ensures.tags
