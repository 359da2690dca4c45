use Rattle.std.proofs.Common.{sym, subst}
use Rattle.shadow_views.specs.Tables.{IsView}
use Rattle.shadow_views.proofs.Changes.{IsView-from_Holds}
use Rattle.shadow_tables.specs.Slots.{roots}
use Rattle.shadow_tables.specs.Laws.Views.{in-kernel, in-user}
use Rattle.shadow_tables.proofs.Fills.{held-after}
use Rattle.shadow_tables.proofs.Bars.{put-in, bars, bar-frames, bar-writes, bar-tables}
use Rattle.shadow_tables.proofs.shadow.Shadow.bar_page.Goals as goal

pub bar_word-requires-clause-view : goal.bar_word-requires-clause-view
bar_word-requires-clause-view c =
    let s = c.args.self.now in
    subst (IsView c.args.ram.now) (sym c.root.ensures)
    (IsView-from_Holds c.args.ram.now (roots s) s.kernel c.requires.shadow.holds (in-kernel s))

pub bar_word-requires-2-clause-view : goal.bar_word-requires-2-clause-view
bar_word-requires-2-clause-view c =
    let s = c.args.self.now in let m = c.args.ram.now in let n = c.bar_word.new.ram in let page = c.args.page in
    let a = put-in s m n c.root.result s.kernel page c.args.frame c.requires.shadow.holds c.root.ensures (in-kernel s)
    c.bar_word.ensures.puts in
    subst (IsView n) (sym c.root-2.ensures)
    (IsView-from_Holds n (roots s) s.user (held-after s m n s.kernel page _ c.requires.shadow a) (in-user s))

pub returns-clause-becomes : goal.returns-clause-becomes
returns-clause-becomes c =
    let s = c.args.self.now in let m = c.args.ram.now in let n = c.bar_word.new.ram in let o = c.bar_word-2.new.ram in
    let page = c.args.page in let frame = c.args.frame in
    let a = put-in s m n c.root.result s.kernel page frame c.requires.shadow.holds c.root.ensures (in-kernel s) c.bar_word.ensures.puts in
    let b = put-in s n o c.root-2.result s.user page frame (held-after s m n s.kernel page _ c.requires.shadow a) c.root-2.ensures
    (in-user s) c.bar_word-2.ensures.puts in
    bars s m n o page frame c.requires.shadow c.requires.page a b

pub returns-clause-held : goal.returns-clause-held
returns-clause-held c =
    let s = c.args.self.now in let m = c.args.ram.now in let n = c.bar_word.new.ram in let o = c.bar_word-2.new.ram in
    let page = c.args.page in let frame = c.args.frame in
    let a = put-in s m n c.root.result s.kernel page frame c.requires.shadow.holds c.root.ensures (in-kernel s) c.bar_word.ensures.puts in
    let b = put-in s n o c.root-2.result s.user page frame (held-after s m n s.kernel page _ c.requires.shadow a) c.root-2.ensures
    (in-user s) c.bar_word-2.ensures.puts in
    bar-frames s m n o page frame c.requires.shadow c.requires.page a b

pub returns-clause-memory : goal.returns-clause-memory
returns-clause-memory c =
    let s = c.args.self.now in let m = c.args.ram.now in let n = c.bar_word.new.ram in let o = c.bar_word-2.new.ram in
    let page = c.args.page in let frame = c.args.frame in
    let a = put-in s m n c.root.result s.kernel page frame c.requires.shadow.holds c.root.ensures (in-kernel s) c.bar_word.ensures.puts in
    let b = put-in s n o c.root-2.result s.user page frame (held-after s m n s.kernel page _ c.requires.shadow a) c.root-2.ensures
    (in-user s) c.bar_word-2.ensures.puts in
    bar-writes s m n o page frame c.requires.shadow c.requires.page a b

pub returns-clause-tables : goal.returns-clause-tables
returns-clause-tables c =
    let s = c.args.self.now in let m = c.args.ram.now in let n = c.bar_word.new.ram in let o = c.bar_word-2.new.ram in
    let page = c.args.page in let frame = c.args.frame in
    let a = put-in s m n c.root.result s.kernel page frame c.requires.shadow.holds c.root.ensures (in-kernel s) c.bar_word.ensures.puts in
    let b = put-in s n o c.root-2.result s.user page frame (held-after s m n s.kernel page _ c.requires.shadow a) c.root-2.ensures
    (in-user s) c.bar_word-2.ensures.puts in
    bar-tables s m n o page frame c.requires.shadow c.requires.page a b
