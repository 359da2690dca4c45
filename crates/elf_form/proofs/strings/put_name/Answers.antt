use Rattle.std.proofs.Common.{◌≡◌, length, rules}
use Rattle.elf_form.proofs.StringLaws.{placed, added}
use Rattle.elf_form.proofs.strings.put_name.Goals as goal

pub returns-then-contains_key : goal.returns-then-contains_key
returns-then-contains_key c = λ names is. placed names c.args.name.now c.args.strings.now.items c.args.places.now is c.contains_key.result
    c.contains_key.ensures c.if-contains_key.true

pub returns : goal.returns
returns c = λ names is.
    let len : c.len-at.result ≡ length c.args.strings.now.items = search rules in
    added names c.args.name.now c.args.strings.now.items c.args.places.now is c.contains_key.result c.len-at.result
    c.extend_from_slice.new.self.items c.push.new.self.items c.insert.new.self
    c.contains_key.ensures c.if-contains_key.false len c.in_ok-extend_from_slice.ensures.items c.in_ok-push.ensures.items
    c.in_ok-insert.ensures.updates
