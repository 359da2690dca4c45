-- What a scan says of what is read of a text: its tokens, and where and why it is refused.
use Rattle.asm_lex.proofs.TextTokens.{are_tokens, are_found}
use Rattle.asm_lex.proofs.Spans.{are_spans}
use Rattle.asm_lex.proofs.FaultLines.{refused_at}
use Rattle.asm_lex.proofs.Refusals.{refused_for}
use Rattle.asm_lex.proofs.OneRefusal.{refused_only}

pub ruleset readings = (are_tokens, are_found, are_spans, refused_at, refused_for, refused_only)
