use Rattle.paging.proofs.Translations.{fetches_agree}
use Rattle.paging.proofs.modes.fetches_agree.Goals as goal

pub returns : goal.returns
returns c = fetches_agree
