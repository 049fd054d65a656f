use Rattle.cv_keep.proofs.MemoryLemmas.{write_cause, write_crash, write_syncs}
use Rattle.cv_keep.proofs.mem.MemDiskDisk.write_at.Goals as goal

pub returns-clause-syncs : goal.returns-clause-syncs
returns-clause-syncs c = write_syncs c.args.at c.args.bytes.now c.args.self.now c.write.new.self c.write.result c.write.ensures.recorded

pub returns-clause-crash : goal.returns-clause-crash
returns-clause-crash c = write_crash c.args.at c.args.bytes.now c.args.self.now c.write.new.self c.write.result c.write.ensures.recorded

pub returns-clause-cause : goal.returns-clause-cause
returns-clause-cause c = write_cause c.args.at c.args.bytes.now c.args.self.now c.write.new.self c.write.result c.write.ensures.recorded
