use Rattle.wedge_mem.proofs.Others.{others_after}
use Rattle.wedge_mem.proofs.Plain.{found_after, going_after}
use Rattle.wedge_mem.proofs.serving.fetch.Goals as goal

pub returns-clause-going : goal.returns-clause-going
returns-clause-going g c =
    going_after _ _ _ _ c.fetch-met.new.state c.follow.new.self c.fetch-met.ensures.sound c.follow.ensures.state c.follow.ensures.guards

pub returns-clause-found : goal.returns-clause-found
returns-clause-found g c =
    found_after (g.B.Translations.entries c.args.base.now) c.fetch-met.new.ram c.fetch-met.new.state c.follow.new.self c.args.at c.args.len
    c.fetch-met.result c.follow.ensures.state
    c.fetch-met.ensures.ready

pub returns-clause-others : goal.returns-clause-others
returns-clause-others g c =
    others_after (g.B.Translations.entries c.args.base.now) c.args.ram.now c.fetch-met.new.ram c.state-state.result c.fetch-met.new.state
    c.args.step.now c.follow.new.self
    c.args.at c.args.len c.args.user c.fetch-met.result c.state-state.ensures.state c.fetch-met.ensures.fetches c.follow.ensures.state
