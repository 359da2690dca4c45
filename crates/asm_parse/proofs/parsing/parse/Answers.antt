use Rattle.std.proofs.Common.{◌≤◌, List, length}
use Rattle.std.specs.Prelude.{IfOk}
use Rattle.asm_source.specs.declared.tree.SourceItem.{SourceItem}
use Rattle.asm_source.specs.Readable.{IsReadable}
use Rattle.asm_source.specs.Size.{items_size, items_count}
use Rattle.asm_parse.specs.Source.{SourceAs}
use Rattle.asm_parse.specs.Reads.{ReadsAs}
use Rattle.asm_parse.proofs.Lengths.{by_length}
use Rattle.asm_parse.proofs.Sources.{parsed_is, are_parsed, none_parsed, refused_line, refused_alive}
use Rattle.asm_parse.proofs.Sizes.{parsed_size, parsed_count}
use Rattle.asm_parse.proofs.Readability.{parsed_readable}
use Rattle.asm_parse.proofs.Faulted.{parsed_refused}
use Rattle.asm_parse.proofs.OneCause.{parsed_refused_only}
use Rattle.asm_parse.proofs.parsing.parse.Goals as goal

pub returns : goal.returns
returns c =
    let text = c.args.text.now in
    let r = c.read_text.result in
    let long = c.read_text.ensures.long in
    let exact = c.read_text.ensures.exact in
    record {
      long = long;
      read = by_length (λ x. IfOk x (λ s. SourceAs text s)) text r long exact (parsed_is text r) (λ lt. tt);
      size = by_length (λ x. IfOk x (λ s. items_size s ≤ length text)) text r long exact (parsed_size text r) (λ lt. tt);
      count = by_length (λ x. IfOk x (λ s. items_count s ≤ length text)) text r long exact (parsed_count text r) (λ lt. tt);
      readable = by_length (λ x. IfOk x IsReadable) text r long exact (parsed_readable text r) (λ lt. tt);
      only = by_length (λ x. (items : List SourceItem) → SourceAs text items → ReadsAs items x) text r long exact
          (λ small p. are_parsed text r p) (none_parsed text);
      exact = exact;
      dead = λ small. refused_line text r (exact small);
      alive = λ small. refused_alive text r (exact small);
      cause = λ small. parsed_refused text r (exact small);
      cause_only = λ small. parsed_refused_only text r (exact small);
    }
