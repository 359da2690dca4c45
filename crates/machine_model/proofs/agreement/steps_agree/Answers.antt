use Rattle.machine_model.proofs.Works.{steps_agree}
use Rattle.machine_model.proofs.agreement.steps_agree.Goals as goal

pub returns : goal.returns
returns c = steps_agree (record {
  fetches = c.fetches_agree.ensures;
  plain = c.plain_agrees.ensures;
  rows = c.rows_agree.ensures;
  deliveries = c.deliveries_agree.ensures;
})
