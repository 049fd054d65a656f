-- Threads may share prepared records. Each part has a lemma: a search over a whole type gives up.
use Rattle.std.proofs.Crossing.{crosses}
use denote.Param.Send.{IsSend, IsSync, sendable}
use denote.Param.SendFields.{declared_send, declared_sync}
use Rattle.cv_match.proofs.entry.PreparedEntries.TheSendSync as entries
use Rattle.cv_match.specs.contracts.kinds.PreparedForKinds as kinds
use Rattle.cv_match.specs.contracts.prepared.PreparedRecord as prepared
use Rattle.cv_match.specs.contracts.prepared.ReadyAdvisory as prepared_advisory

prepared_send : IsSend prepared.the_row
prepared_send = search (entries.the_send, sendable, crosses, declared_send) depth 30 fits 5000

prepared_sync : IsSync prepared.the_row
prepared_sync = search (entries.the_sync, sendable, crosses, declared_sync) depth 30 fits 5000

pub prepared_advisory_send : IsSend prepared_advisory.the_row
prepared_advisory_send = search (prepared_send, prepared_sync, sendable, crosses, declared_send) depth 30 fits 5000

pub prepared_advisory_sync : IsSync prepared_advisory.the_row
prepared_advisory_sync = search (prepared_send, prepared_sync, sendable, crosses, declared_sync) depth 30 fits 5000

pub kinds_send : IsSend kinds.the_row
kinds_send = search (prepared_advisory_send, sendable, declared_send) depth 30 fits 5000

pub kinds_sync : IsSync kinds.the_row
kinds_sync = search (prepared_advisory_sync, sendable, declared_sync) depth 30 fits 5000
