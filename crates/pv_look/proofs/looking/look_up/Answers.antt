use Rattle.pv_look.proofs.looking.look_up.Goals as goal

pub returns-in-List-clause-meaning : goal.returns-in-List-clause-meaning
returns-in-List-clause-meaning g c = rw c.in-List.is c.list.ensures.meaning

pub returns-in-List-clause-counts : goal.returns-in-List-clause-counts
returns-in-List-clause-counts g c = rw c.in-List.is c.list.ensures.counts

pub returns-in-Steps-clause-meaning : goal.returns-in-Steps-clause-meaning
returns-in-Steps-clause-meaning g c = rw c.in-Steps.is c.steps.ensures.meaning

pub returns-in-Steps-clause-counts : goal.returns-in-Steps-clause-counts
returns-in-Steps-clause-counts g c = rw c.in-Steps.is c.steps.ensures.counts

pub returns-in-Before-clause-meaning : goal.returns-in-Before-clause-meaning
returns-in-Before-clause-meaning g c = rw c.in-Before.is c.before-in-Before.ensures.meaning

pub returns-in-Before-clause-counts : goal.returns-in-Before-clause-counts
returns-in-Before-clause-counts g c = rw c.in-Before.is c.before-in-Before.ensures.counts

pub returns-in-InFile-clause-meaning : goal.returns-in-InFile-clause-meaning
returns-in-InFile-clause-meaning g c = rw c.in-InFile.is c.of_file.ensures.meaning

pub returns-in-InFile-clause-counts : goal.returns-in-InFile-clause-counts
returns-in-InFile-clause-counts g c = rw c.in-InFile.is c.of_file.ensures.counts
