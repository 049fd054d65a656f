use Rattle.cv_base.proofs.DigestLemmas.{read_back, written_back}
use Rattle.cv_base.proofs.digest.digest_round_trip.Goals as goal

pub returns : goal.returns
returns c = record { read_back = read_back; written_back = written_back }
