use Rattle.std.proofs.Common.{◌≡◌, ◌+◌, ◌-◌, ◌≤◌, ℕ, List, Option, IfSome, take, drop, refl, subst}
use Rattle.cv_keep.specs.code.Walk.{IsNextGate}
use Rattle.cv_keep.proofs.ReadLemmas.{bytes_within, gate_before_last, read_found, read_none}
use Rattle.cv_keep.proofs.Moments.{if_known, if_known_as, known_at}
use Rattle.cv_keep.proofs.journal.Journal.read.Goals as goal

pub next_gate-requires : goal.next_gate-requires
next_gate-requires g c =
    record { place = if_known _ _ _ c.requires.belongs (λ b is settled. gate_before_last _ c.args.self.now.gate c.args.at b settled (known_at _ b _ is c.requires.gate)) }

pub read_bytes-requires : goal.read_bytes-requires
read_bytes-requires g c =
    let within = subst (λ (o : Option ℕ). IfSome o (λ place. (c.args.at + 9 ≤ place) × (place ≤ c.args.self.now.gate))) c.in-Some.is c.in_ok-next.ensures.within in
    record {
      inside = if_known_as _ _ _ _ c.next_gate.ensures.contents c.requires.belongs (λ b is settled.
          bytes_within _ c.args.self.now.gate c.args.at c.in-Some.next b settled within);
    }

pub returns-in_ok-bytes-in-Some-clause-read : goal.returns-in_ok-bytes-in-Some-clause-read
returns-in_ok-bytes-in-Some-clause-read g c =
    let found = subst (λ (o : Option ℕ). IfSome (g.J.Disk.contents c.args.disk.now) (λ b. IsNextGate b c.args.at o)) c.in-Some.is c.in_ok-next.ensures.next in
    let bytes = subst (λ (o : Option (List ℕ)). IfSome o (λ b. c.in_ok-bytes-in-Some.bytes ≡ take (c.in-Some.next - (c.args.at + 9)) (drop (c.args.at + 9) b))) c.next_gate.ensures.contents c.in_ok-bytes-in-Some.ensures.read in
    read_found _ c.args.at c.in-Some.next _ found bytes refl

pub returns-in-None-clause-read : goal.returns-in-None-clause-read
returns-in-None-clause-read g c =
    read_none _ c.args.at
    (subst (λ (o : Option ℕ). IfSome (g.J.Disk.contents c.args.disk.now) (λ b. IsNextGate b c.args.at o)) c.in-None.is c.in_ok-next.ensures.next)
