use Rattle.cv_path.proofs.PathReads.{at_most, enough, names, read, reads_back, spelled}
use Rattle.cv_path.proofs.path.path_laws.Goals as goal

pub returns : goal.returns
returns c = record { spelled = spelled; read = read; reads_back = reads_back; at_most = at_most; names = names; enough = enough }
