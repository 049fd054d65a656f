use Rattle.cv_core.proofs.event.Event.after.Goals as goal

pub returns-in-Register-clause-tries : goal.returns-in-Register-clause-tries
returns-in-Register-clause-tries g c known = rw c.in-Register.is (c.register.ensures.tries known)

pub returns-in-Indexed-clause-tries : goal.returns-in-Indexed-clause-tries
returns-in-Indexed-clause-tries g c known = rw c.in-Indexed.is (c.index.ensures.tries known)
