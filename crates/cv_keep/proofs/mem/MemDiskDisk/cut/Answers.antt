use Rattle.cv_keep.proofs.MemoryLemmas.{cut_cause, cut_crash, cut_syncs}
use Rattle.cv_keep.proofs.mem.MemDiskDisk.cut.Goals as goal

pub returns-clause-syncs : goal.returns-clause-syncs
returns-clause-syncs c = cut_syncs c.args.len c.args.self.now c.shorten.new.self c.shorten.result c.shorten.ensures.recorded

pub returns-clause-crash : goal.returns-clause-crash
returns-clause-crash c = cut_crash c.args.len c.args.self.now c.shorten.new.self c.shorten.result c.shorten.ensures.recorded

pub returns-clause-cause : goal.returns-clause-cause
returns-clause-cause c = cut_cause c.args.len c.args.self.now c.shorten.new.self c.shorten.result c.shorten.ensures.recorded
