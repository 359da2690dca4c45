use Rattle.std.proofs.Common.{arith}
use Rattle.ia32_rows.proofs.Readers.{AreBytes-from_each}
use Rattle.image_check.proofs.Acceptances.{if_accepted, if_only, if_first, if_first_only, if_refused, if_refused_only, if_form}
use Rattle.image_check.proofs.checking.check.Goals as goal

pub returns-clause-accepted : goal.returns-clause-accepted
returns-clause-accepted c =
    if_accepted c.args.bytes.now c.check_file.result (AreBytes-from_each _ (λ i. omega (arith, c.type_inv.bytes i))) c.check_file.ensures

pub returns-clause-only : goal.returns-clause-only
returns-clause-only c =
    if_only c.args.bytes.now c.check_file.result (AreBytes-from_each _ (λ i. omega (arith, c.type_inv.bytes i))) c.check_file.ensures

pub returns-clause-first : goal.returns-clause-first
returns-clause-first c = if_first c.args.bytes.now c.check_file.result c.check_file.ensures

pub returns-clause-first_only : goal.returns-clause-first_only
returns-clause-first_only c = if_first_only c.args.bytes.now c.check_file.result c.check_file.ensures

pub returns-clause-refused : goal.returns-clause-refused
returns-clause-refused c =
    if_refused c.args.bytes.now c.check_file.result (AreBytes-from_each _ (λ i. omega (arith, c.type_inv.bytes i))) c.check_file.ensures

pub returns-clause-refused_only : goal.returns-clause-refused_only
returns-clause-refused_only c = if_refused_only c.args.bytes.now c.check_file.result
    (AreBytes-from_each _ (λ i. omega (arith, c.type_inv.bytes i))) c.check_file.ensures

pub returns-clause-form : goal.returns-clause-form
returns-clause-form c = if_form c.args.bytes.now c.check_file.result c.check_file.ensures
