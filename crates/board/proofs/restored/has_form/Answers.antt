use Rattle.std.proofs.Common.{◌≡◌, true, length, sym, ◌∙◌, rules}
use Rattle.board.proofs.Forms.{form_is, form_pics, form_count, form_port}
use Rattle.board.proofs.restored.has_form.Goals as goal

pub returns-clause-form : goal.returns-clause-form
returns-clause-form c = c.are_met.ensures ∙ sym (form_is c.args.bytes.now)

pub returns-clause-pics : goal.returns-clause-pics
returns-clause-pics c =
    λ (met : c.are_met.result ≡ true). form_pics c.args.bytes.now (form_is c.args.bytes.now ∙ (sym c.are_met.ensures ∙ met))

pub returns-clause-pit : goal.returns-clause-pit
returns-clause-pit c =
    λ (met : c.are_met.result ≡ true). form_count c.args.bytes.now (form_is c.args.bytes.now ∙ (sym c.are_met.ensures ∙ met))

pub returns-clause-uart : goal.returns-clause-uart
returns-clause-uart c =
    let all : length c.args.bytes.now ≡ 64 = search rules in
    λ (met : c.are_met.result ≡ true). (form_port c.args.bytes.now all (form_is c.args.bytes.now ∙ (sym c.are_met.ensures ∙ met))).0

pub returns-clause-waiting : goal.returns-clause-waiting
returns-clause-waiting c =
    let all : length c.args.bytes.now ≡ 64 = search rules in
    λ (met : c.are_met.result ≡ true). (form_port c.args.bytes.now all (form_is c.args.bytes.now ∙ (sym c.are_met.ensures ∙ met))).1
