use Rattle.wedge_step.proofs.carrying.carry_laws.Goals as goal

pub returns : goal.returns
returns c = record {
  known = c.known_laws.ensures;
  start = c.known_goes_on.ensures.start;
  quiet = c.known_goes_on.ensures.quiet;
  rule = c.kept_on.ensures.on;
  joins = c.taken_on.ensures;
}
