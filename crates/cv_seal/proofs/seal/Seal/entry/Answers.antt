use Rattle.std.proofs.Common.{option_map, sym, subst}
use Rattle.cv_seal.specs.Seal.{sealed_entry, summed_bytes}
use Rattle.cv_seal.specs.Taken.{HasTaken}
use Rattle.cv_seal.specs.code.Summed.{HasSummed}
use Rattle.cv_seal.proofs.SealLemmas.{summed_more}
use Rattle.cv_seal.proofs.seal.Seal.entry.Goals as goal

-- the bytes of the entry follow those of the entries before it
pub returns : goal.returns
unfolding HasTaken
returns c = λ taken held.
    let entry = sealed_entry c.args.entry.now (option_map (λ bytes. bytes.now) c.args.content) in
    subst (HasSummed c.sum.new.self) (sym (summed_more taken entry)) (c.sum.ensures (summed_bytes taken) held)
