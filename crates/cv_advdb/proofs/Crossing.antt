-- Threads may share feeds. Each part has a lemma: a search over a whole type gives up.
use Rattle.std.proofs.Crossing.{crosses}
use Rattle.std.proofs.MapsCrossing as maps
use denote.Param.Send.{IsSend, IsSync, sendable}
use denote.Param.SendFields.{declared_send, declared_sync}
use Rattle.cv_seq.proofs.text.Text.TheSendSync as text
use Rattle.cv_base.proofs.advisory.Advisory.TheSendSync as advisory
use Rattle.cv_base.proofs.«package».PackageName.TheSendSync as package_name
use Rattle.cv_match.proofs.Crossing.{kinds_send, kinds_sync}
use Rattle.cv_advdb.specs.contracts.feeds.Feeds as feeds
use Rattle.cv_advdb.specs.contracts.list.RecordList as list
use Rattle.cv_advdb.specs.contracts.record.PreparedRecord as record_of
use Rattle.cv_advdb.specs.contracts.record.StoredRecord as stored
use Rattle.cv_advdb.specs.contracts.indexed.IndexedRecords as indexed
use Rattle.cv_advdb.specs.contracts.stock.Stock as stock

record_send : IsSend record_of.the_row
record_send = search (kinds_send, advisory.the_send, sendable, declared_send) depth 30 fits 5000

record_sync : IsSync record_of.the_row
record_sync = search (kinds_sync, advisory.the_sync, sendable, declared_sync) depth 30 fits 5000

stored_send : IsSend stored.the_row
stored_send = search (record_send, record_sync, sendable, crosses, declared_send) depth 30 fits 5000

stored_sync : IsSync stored.the_row
stored_sync = search (record_send, record_sync, sendable, crosses, declared_sync) depth 30 fits 5000

list_send : IsSend list.the_row
list_send = search (stored_send, sendable, crosses, declared_send) depth 30 fits 5000

list_sync : IsSync list.the_row
list_sync = search (stored_sync, sendable, crosses, declared_sync) depth 30 fits 5000

indexed_send : IsSend indexed.the_row
indexed_send = search (stored_send, list_send, package_name.the_send, sendable, crosses, maps.crosses, declared_send) depth 30 fits 5000

indexed_sync : IsSync indexed.the_row
indexed_sync = search (stored_sync, list_sync, package_name.the_sync, sendable, crosses, maps.crosses, declared_sync) depth 30 fits 5000

stock_send : IsSend stock.the_row
stock_send = search (indexed_send, indexed_sync, sendable, crosses, declared_send) depth 30 fits 5000

stock_sync : IsSync stock.the_row
stock_sync = search (indexed_send, indexed_sync, sendable, crosses, declared_sync) depth 30 fits 5000

pub feeds_send : IsSend feeds.the_row
feeds_send = search (stock_send, text.the_send, sendable, crosses, maps.crosses, declared_send) depth 30 fits 5000

pub feeds_sync : IsSync feeds.the_row
feeds_sync = search (stock_sync, text.the_sync, sendable, crosses, maps.crosses, declared_sync) depth 30 fits 5000
