use Rattle.cv_io.specs.code.Gather.{reader_of}
use Rattle.cv_io.proofs.Steps.{Meaning, meaning}
use Rattle.cv_io.proofs.reader.LineReader.next.Given.{Over}
use Rattle.cv_io.proofs.reader.LineReader.next.Goals as goal

-- what the call means, for the reader before it and after it
meant : (g : Over) (c : goal.After-self-1 g)
    → Meaning (reader_of c.self.inside.gather c.self.inside.spent) (reader_of c.next_line-answer.new.self c.is_err-self-inside.result)
    (g.S.Source.remaining c.args.input.now) (g.S.Source.remaining c.next_line-answer.new.input) c.next_line-answer.result
meant g c =
    let was = c.self.inside.spent in
    let is = c.is_err-self-inside.result in
    let done = c.next_line-answer in
    meaning (reader_of c.self.inside.gather was) (reader_of done.new.self is) (g.S.Source.remaining c.args.input.now) (g.S.Source.remaining done.new.input)
    done.ensures.limits.max_line done.ensures.limits.max_input done.result (done.ensures.step was is)

pub returns-clause-reads : goal.returns-clause-reads
returns-clause-reads g c = rw (← c.self.view_is) ((meant g c).reads)

pub returns-clause-gives : goal.returns-clause-gives
returns-clause-gives g c = rw (← c.self.view_is) ((meant g c).gives)

pub returns-clause-room : goal.returns-clause-room
returns-clause-room g c = rw (← c.self.view_is) ((meant g c).narrows)

pub returns-clause-ahead : goal.returns-clause-ahead
returns-clause-ahead g c = c.next_line-answer.ensures.ahead c.is_err-self-inside.result
