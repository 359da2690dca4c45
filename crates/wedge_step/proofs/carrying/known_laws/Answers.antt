use Rattle.wedge_step.proofs.carrying.known_laws.Goals as goal

pub returns : goal.returns
returns c = record {
  tells = c.settling_tells.ensures.told;
  comes = c.settling_tells.ensures.dropped;
  still = c.known_goes_on.ensures.still;
  on = c.known_goes_on.ensures.on;
  before = c.roomy_is_few.ensures.before;
  few = c.roomy_is_few.ensures.few;
  grow = c.roomy_is_few.ensures.grow;
}
