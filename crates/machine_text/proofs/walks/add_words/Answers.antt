use Rattle.std.proofs.Common.{◌≡◌, List, ℕ, ◌++◌, subst}
use Rattle.std.specs.Prelude.{OnOk}
use Rattle.machine_text.specs.Views.{seen}
use Rattle.machine_text.proofs.Words.{words_there}
use Rattle.machine_text.proofs.walks.add_words.Goals as goal

pub returns : goal.returns
returns g c =
    let v = seen g.C.Cache.entries c.args.memory.now in
    subst (λ (xs : List ℕ). OnOk c.add_dir.result (c.add_dir.new.text.items ≡ c.args.text.now.items ++ xs))
    (words_there v c.args.page c.read32-dir.result c.if-memory.false c.read32-dir.ensures) c.add_dir.ensures
