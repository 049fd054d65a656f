-- Each notification so far was offered if it was due, and there is room for a line of each of the others. While the attempts go on each
-- offer was taken.
use Rattle.std.specs.Prelude.{◌≡◌, ◌+◌, ◌-◌, ◌≤◌, true, length, take, vec_capacity, vec_len}
use Rattle.std.specs.Map.{keys_of}
use Rattle.cv_core_machine.specs.Scans.{StatesEveryLayer}
use Rattle.cv_core_records.specs.Pages.{heads}
use Rattle.cv_hook.specs.Attempts.{goes_on, numbers}
use Rattle.cv_serve_pushed.specs.Attempts.{AreTaken, notifications_after}
use Rattle.cv_serve_pushed.specs.code.Going.{HavePassed, WasOffered}
use Rattle.cv_serve_pushed.proofs.attempts.attempt_all.Given as goal

abbrev pub invariant-loop-head : goal.invariant-loop-head
invariant-loop-head g l =
    let standing = notifications_after g.D.Desk.tree g.L.Identity.limits l.view.list in
    let known = StatesEveryLayer g.D.Desk.tree × (l.list ≡ heads standing) in
    WasOffered known standing l.fn.outbox l.outbox (g.H.Hook.offers l.fn.hook) (g.H.Hook.offers l.hook) (g.H.Hook.faults l.fn.hook) (g.H.Hook.faults l.hook) l.lines.items
    × (known → HavePassed l.fn.outbox l.outbox (keys_of standing) (numbers (take l.head-index l.list)) l.lines.items)
    × (vec_len l.lines + (length l.list - l.head-index) ≤ vec_capacity l.lines)
    × (goes_on l.outbox.noted ≡ true → AreTaken l.lines.items)
