use Rattle.std.proofs.Common.{◌∙◌, ap}
use Rattle.std.specs.Prelude.{option_and_then}
use Rattle.std.specs.Str.Parse.{ExplainsUnsignedError, HasUnsignedDigitsIfOk, ParsesUnsigned}
use Rattle.clap.specs.Matches.{found_of, one_text}
use Rattle.clap.proofs.WalkLemmas.{one_text-rows}
use Rattle.cv_command_arguments.specs.Simple.{number}
use Rattle.cv_command_arguments.proofs.Reading.{got_number}
use Rattle.cv_command_arguments.proofs.simple.number_of.Goals as goal

pub returns : goal.returns
returns c =
    got_number (λ bs r. ParsesUnsigned 32 10 bs r × ExplainsUnsignedError 10 bs r × HasUnsignedDigitsIfOk bs r) (one_text (found_of c.args.matches.now) c.args.id.now) c.get_one.result
    (λ t x g. g.0) c.get_one.ensures.none c.get_one.ensures.value
    ∙ ap (option_and_then number) (one_text-rows (found_of c.args.matches.now) c.args.id.now)
