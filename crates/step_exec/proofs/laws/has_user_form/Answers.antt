use Rattle.step_exec.proofs.UserForms as forms
use Rattle.step_exec.proofs.laws.has_user_form.Goals as goal

pub returns : goal.returns
returns c = forms.has_user_form
