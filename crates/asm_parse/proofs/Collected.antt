-- What is read word by word are statements.
use Rattle.std.proofs.Common.{◌≡◌, ℕ, Bool, true, false, List, [], ◌∷◌, ◌++◌, length, Ok, refl, sym, ap, subst, ◌∙◌, append_assoc}
use Rattle.std.specs.Prelude.{◌==◌, ◌+◌}
use Rattle.std.specs.List.{list_all}
use Rattle.std.proofs.lemmas.List.{append-nil}
use Rattle.std.proofs.lemmas.Bool.{eqb-true, and_parts}
use Rattle.asm_lex.specs.declared.fault.SourceCause.TheVariants as cause
use Rattle.asm_lex.specs.Words.{Word}
use Rattle.asm_argument.specs.declared.terminal.Terminal.{Terminal}
use Rattle.asm_argument.specs.declared.terminal.Terminal.TheVariants as terminal
use Rattle.asm_statement.specs.declared.state.StatementState.{StatementState}
use Rattle.asm_statement.specs.declared.state.StatementState.TheVariants as state
use Rattle.asm_statement.specs.ScopeView.{ScopeView}
use Rattle.asm_statement.specs.Scope.{fresh}
use Rattle.asm_argument.specs.Terminals.{terminal_of}
use Rattle.asm_statement.specs.Reading.{placed, ending_at, next_word}
use Rattle.asm_statement.specs.Items.{is_part, sectioned}
use Rattle.asm_parse.proofs.Words.{read_words}
use Rattle.asm_statement.specs.Statement.{next_step, fault_line}
use Rattle.asm_parse.specs.Statements.{is_inner, are_flags, terminals, text_of, Touch, IsStatement, Statements}
use Rattle.asm_parse.proofs.Stated.{is_naming, not_longer}
use Rattle.asm_parse.proofs.Quiet.{WordGoes, word_goes, ok_same}
use Rattle.asm_parse.proofs.Lines.{bind_ok, placed_goes}
use Rattle.asm_parse.proofs.Said.{IsNaming, Begun, start_begun, begun_more, next_begun}

-- where words end that go on from this place
abbrev pub ends_at : ℕ → List Word → ℕ
ends_at at [] = at
ends_at at (w ∷ ws) = ends_at (w.at + length w.bytes) ws

touch_more : (at : ℕ) (ws : List Word) (w : Word) → Touch at ws → ends_at at ws ≡ w.at → is_part w.kind w.bytes ≡ true
    → Touch at (ws ++ w ∷ [])
touch_more at [] w h e part = (e, part, tt)
touch_more at (v ∷ ws) w h e part = (h.0, h.1, touch_more (v.at + length v.bytes) ws w h.2 e part)

ends_more : (at : ℕ) (ws : List Word) (w : Word) → ends_at at (ws ++ w ∷ []) ≡ w.at + length w.bytes
ends_more at [] w = refl
ends_more at (v ∷ ws) w = ends_more (v.at + length v.bytes) ws w

text_more : (ws : List Word) (w : Word) → text_of (ws ++ w ∷ []) ≡ text_of ws ++ w.bytes
text_more [] w = append-nil w.bytes
text_more (v ∷ ws) w = ap (λ (x : List ℕ). v.bytes ++ x) (text_more ws w) ∙ sym (append_assoc v.bytes (text_of ws) w.bytes)

-- These words are the change of a section up to its name, which ends at this place.
pub record InName (sc0 : ScopeView) (ws : List Word) (b : ℕ) (n m : List ℕ) (e : ℕ) : Type 0 where
  pub first : Word
  pub second : Word
  pub parts : List Word
  pub front : List ℕ
  pub whole : ws ≡ first ∷ second ∷ parts
  pub line : b ≡ first.line
  pub named : terminal_of first.kind first.bytes ≡ terminal.Name n
  pub behind : terminal_of second.kind second.bytes ≡ terminal.Name front
  pub naming : IsNaming sc0 n front
  pub touch : Touch (second.at + length second.bytes) parts
  pub name : m ≡ front ++ text_of parts
  pub ends : e ≡ ends_at (second.at + length second.bytes) parts

-- a statement once these words have ended
abbrev pub InFlags : ScopeView → List Word → ℕ → List ℕ → List ℕ → Type 0
InFlags sc0 ws b n m = (rest : List Word) (ss : List Terminal) → terminals rest ≡ ss ++ terminal.End ∷ [] → list_all is_inner ss ≡ true
    → IsStatement sc0 (ws ++ rest) (sectioned sc0 b n m)

name_ends : (sc0 : ScopeView) (ws rest : List Word) (b : ℕ) (n m : List ℕ) (e : ℕ) (ss : List Terminal) → InName sc0 ws b n m e
    → terminals rest ≡ ss ++ terminal.End ∷ [] → are_flags ss ≡ true → IsStatement sc0 (ws ++ rest) (sectioned sc0 b n m)
name_ends sc0 ws rest b n m e ss w end flags =
    let st = IsStatement.section {sc = sc0} {n = n} {m = w.front} w.first w.second w.parts rest ss w.named w.naming.passed w.naming.dotted
    w.naming.section w.behind w.naming.is w.touch end flags in
    let st2 : IsStatement sc0 (w.first ∷ w.second ∷ (w.parts ++ rest)) (sectioned sc0 b n m) =
    subst (IsStatement sc0 (w.first ∷ w.second ∷ (w.parts ++ rest))) (rw (w.line, w.name) refl) st in
    subst (λ (x : List Word). IsStatement sc0 (x ++ rest) (sectioned sc0 b n m)) (sym w.whole) st2

name_longer : (sc0 : ScopeView) (ws : List Word) (w : Word) (b : ℕ) (n m : List ℕ) (e : ℕ) → InName sc0 ws b n m e → e ≡ w.at
    → is_part w.kind w.bytes ≡ true → InName sc0 (ws ++ w ∷ []) b n (m ++ w.bytes) (w.at + length w.bytes)
name_longer sc0 ws w b n m e g at part = record {
  first = g.first;
  second = g.second;
  parts = g.parts ++ w ∷ [];
  front = g.front;
  whole = ap (λ (x : List Word). x ++ w ∷ []) g.whole;
  line = g.line;
  named = g.named;
  behind = g.behind;
  naming = g.naming;
  touch = touch_more (g.second.at + length g.second.bytes) g.parts w g.touch (sym g.ends ∙ at) part;
  name = ap (λ (x : List ℕ). x ++ w.bytes) g.name
      ∙ (append_assoc g.front (text_of g.parts) w.bytes ∙ ap (λ (x : List ℕ). g.front ++ x) (sym (text_more g.parts w)));
  ends = sym (ends_more (g.second.at + length g.second.bytes) g.parts w);
}

-- the words of the statement that has begun
abbrev pub HeldBy : ScopeView → StatementState → Word → List Word → ScopeView → Type 0
HeldBy sc0 state.Start w ps sc = IsStatement sc0 (w ∷ ps) sc
HeldBy sc0 (state.Sectioned b n m e) w ps sc = (sc0 ≡ sc) × InName sc0 (w ∷ ps) b n m e
HeldBy sc0 (state.Flags b n m) w ps sc = (sc0 ≡ sc) × InFlags sc0 (w ∷ ps) b n m
HeldBy sc0 st w ps sc = Begun sc0 w.line st (terminals (w ∷ ps)) sc

abbrev pub Held : ScopeView → StatementState → List Word → ScopeView → Type 0
Held sc0 st [] sc = (st ≡ state.Start) × (sc0 ≡ sc)
Held sc0 st (w ∷ ps) sc = (st ≡ state.Start → ⊥) × HeldBy sc0 st w ps sc

terminals_end : (ps : List Word) (w : Word) → terminals (ps ++ w ∷ []) ≡ terminals ps ++ terminal_of w.kind w.bytes ∷ []
terminals_end [] w = refl
terminals_end (p ∷ ps) w = ap (λ (x : List Terminal). terminal_of p.kind p.bytes ∷ x) (terminals_end ps w)

held_is : (sc0 : ScopeView) (w : Word) (ps : List Word) (x y : ScopeView × StatementState) → x ≡ y → HeldBy sc0 y.1 w ps y.0
    → HeldBy sc0 x.1 w ps x.0
held_is sc0 w ps x y e h = subst (λ (z : ScopeView × StatementState). HeldBy sc0 z.1 w ps z.0) (sym e) h

-- the first two words of a section's name
first_name : (sc0 sc : ScopeView) (p : Word) (ps : List Word) (b e : ℕ) (n m : List ℕ)
    → ((v : Word) → ps ≡ v ∷ [] → e ≡ v.at + length v.bytes) → b ≡ p.line → terminals (p ∷ ps) ≡ terminal.Name n ∷ terminal.Name m ∷ []
    → IsNaming sc0 n m → InName sc0 (p ∷ ps) b n m e
first_name sc0 sc p [] b e n m last line is naming = absurd cc
first_name sc0 sc p (v ∷ []) b e n m last line is naming = record {
  first = p;
  second = v;
  parts = [];
  front = m;
  whole = refl;
  line = line;
  named = cc;
  behind = cc;
  naming = naming;
  touch = tt;
  name = sym (append-nil m);
  ends = last v refl;
}
first_name sc0 sc p (v ∷ u ∷ ps) b e n m last line is naming = absurd cc

-- What the terminals have begun, the words have.
begun_held : (sc0 sc : ScopeView) (st : StatementState) (p : Word) (ps : List Word) (e : ℕ)
    → ((v : Word) → ps ≡ v ∷ [] → e ≡ v.at + length v.bytes) → Begun sc0 p.line st (terminals (p ∷ ps)) sc
    → HeldBy sc0 (ending_at e st) p ps sc
begun_held sc0 sc state.Start p ps e last b = IsStatement.plain p ps b
begun_held sc0 sc (state.Named l n) p ps e last b = b
begun_held sc0 sc state.Skip p ps e last b = b
begun_held sc0 sc (state.Sectioned l n m a) p ps e last b = (b.1, first_name sc0 sc p ps l e n m last b.0 b.2 b.3)
begun_held sc0 sc (state.Flags l n m) p ps e last b = absurd b
begun_held sc0 sc (state.Arguments o) p ps e last b = b
begun_held sc0 sc (state.Stray l c) p ps e last b = tt

last_word : (ps : List Word) (w v : Word) → ps ++ w ∷ [] ≡ v ∷ [] → w.at + length w.bytes ≡ v.at + length v.bytes
last_word [] w v e = let g : w ≡ v = cc in ap (λ (x : Word). x.at + length x.bytes) g
last_word (p ∷ []) w v e = absurd cc
last_word (p ∷ q ∷ ps) w v e = absurd cc

-- a word more, where no section's name is open
plain_more : (sc0 sc : ScopeView) (st : StatementState) (p : Word) (ps : List Word) (w : Word) (z : ScopeView × StatementState)
    → (st ≡ state.Start → ⊥) → is_naming st ≡ false → Begun sc0 p.line st (terminals (p ∷ ps)) sc → next_word sc st w ≡ Ok z
    → HeldBy sc0 z.1 p (ps ++ w ∷ []) z.0
plain_more sc0 sc st p ps w z inside no_name b h = elim (word_goes sc st w z h) [
  | WordGoes.on t g ↦ absurd (both t (not_longer st w.at w.kind w.bytes no_name))
  | WordGoes.as_terminal y t f g ↦
      let s = terminal_of w.kind w.bytes in
      let c : Begun sc0 p.line y.1 (terminals (p ∷ ps) ++ terminal_of w.kind w.bytes ∷ []) y.0 = next_begun sc0 sc p.line w.line st
      (terminals (p ∷ ps) ++ terminal_of w.kind w.bytes ∷ []) (terminal_of w.kind w.bytes) y
      (begun_more sc0 sc p.line w.line st (terminals (p ∷ ps)) (terminal_of w.kind w.bytes) y inside no_name b) f in
      let d : Begun sc0 p.line y.1 (terminals (p ∷ (ps ++ w ∷ []))) y.0 =
      subst (λ (x : List Terminal). Begun sc0 p.line y.1 x y.0) (sym (terminals_end (p ∷ ps) w)) c in
      held_is sc0 p (ps ++ w ∷ []) z (y.0, ending_at (w.at + length w.bytes) y.1) g
      (begun_held sc0 y.0 y.1 p (ps ++ w ∷ []) (w.at + length w.bytes) (last_word ps w) d)
]
  where
    both : {t : Bool} → t ≡ true → t ≡ false → ⊥
    both e f = absurd cc

-- a terminal after a section's name
name_terminal : (sc0 sc : ScopeView) (b : ℕ) (n m : List ℕ) (e : ℕ) (p : Word) (ps : List Word) (w : Word) (y : ScopeView × StatementState)
    → sc0 ≡ sc → InName sc0 (p ∷ ps) b n m e → (s : Terminal) → terminal_of w.kind w.bytes ≡ s
    → next_step sc (state.Sectioned b n m e) w.line s ≡ Ok y → HeldBy sc0 (ending_at (w.at + length w.bytes) y.1) p (ps ++ w ∷ []) y.0
name_terminal sc0 sc b n m e p ps w y same g terminal.End is h =
    let k : (sectioned sc b n m, state.Start) ≡ y = cc in
    let st : IsStatement sc0 (p ∷ (ps ++ w ∷ [])) (sectioned sc b n m) =
    subst (λ (x : ScopeView). IsStatement sc0 (p ∷ (ps ++ w ∷ [])) (sectioned x b n m)) same
    (name_ends sc0 (p ∷ ps) (w ∷ []) b n m e [] g (ap (λ (x : Terminal). x ∷ []) is) refl) in
    subst (λ (z : ScopeView × StatementState). HeldBy sc0 (ending_at (w.at + length w.bytes) z.1) p (ps ++ w ∷ []) z.0) k st
name_terminal sc0 sc b n m e p ps w y same g terminal.Comma is h =
    let k : (sc, state.Flags b n m) ≡ y = cc in
    let st : InFlags sc0 (p ∷ (ps ++ w ∷ [])) b n m =
    λ rest ss end inner. subst (λ (x : List Word). IsStatement sc0 (p ∷ x) (sectioned sc0 b n m)) (sym (append_assoc ps (w ∷ []) rest))
    (name_ends sc0 (p ∷ ps) (w ∷ rest) b n m e (terminal.Comma ∷ ss) g (rw (is, end) refl) inner) in
    subst (λ (z : ScopeView × StatementState). HeldBy sc0 (ending_at (w.at + length w.bytes) z.1) p (ps ++ w ∷ []) z.0) k (same, st)
name_terminal sc0 sc b n m e p ps w y same g terminal.Percent is h =
    let k : (fresh, state.Stray w.line cause.BadOperand) ≡ y = cc in
    subst (λ (z : ScopeView × StatementState). HeldBy sc0 (ending_at (w.at + length w.bytes) z.1) p (ps ++ w ∷ []) z.0) k tt
name_terminal sc0 sc b n m e p ps w y same g _ is h = absurd cc

name_more : (sc0 sc : ScopeView) (b : ℕ) (n m : List ℕ) (e : ℕ) (p : Word) (ps : List Word) (w : Word) (z : ScopeView × StatementState)
    → HeldBy sc0 (state.Sectioned b n m e) p ps sc → next_word sc (state.Sectioned b n m e) w ≡ Ok z → HeldBy sc0 z.1 p (ps ++ w ∷ []) z.0
name_more sc0 sc b n m e p ps w z g h = elim (word_goes sc (state.Sectioned b n m e) w z h) [
  | WordGoes.on t k ↦
      let both = and_parts (e == w.at) (is_part w.kind w.bytes) t in
      held_is sc0 p (ps ++ w ∷ []) z (sc, state.Sectioned b n (m ++ w.bytes) (w.at + length w.bytes)) k
      (g.0, name_longer sc0 (p ∷ ps) w b n m e g.1 (eqb-true e w.at both.0) both.1)
  | WordGoes.as_terminal y t f k ↦ held_is sc0 p (ps ++ w ∷ []) z (y.0, ending_at (w.at + length w.bytes) y.1) k
      (name_terminal sc0 sc b n m e p ps w y g.0 g.1 (terminal_of w.kind w.bytes) refl f)
]

flags_stay : (sc0 sc : ScopeView) (b : ℕ) (n m : List ℕ) (p : Word) (ps : List Word) (w : Word) (y : ScopeView × StatementState) → sc0 ≡ sc
    → InFlags sc0 (p ∷ ps) b n m → (s : Terminal) → terminal_of w.kind w.bytes ≡ s → is_inner s ≡ true
    → (sc, state.Flags b n m) ≡ y → HeldBy sc0 (ending_at (w.at + length w.bytes) y.1) p (ps ++ w ∷ []) y.0
flags_stay sc0 sc b n m p ps w y same g s is inside k =
    let st : InFlags sc0 (p ∷ (ps ++ w ∷ [])) b n m =
    λ rest ss end inner. subst (λ (x : List Word). IsStatement sc0 (p ∷ x) (sectioned sc0 b n m)) (sym (append_assoc ps (w ∷ []) rest))
    (g (w ∷ rest) (s ∷ ss) (rw (is, end) refl) (rw inside inner)) in
    subst (λ (z : ScopeView × StatementState). HeldBy sc0 (ending_at (w.at + length w.bytes) z.1) p (ps ++ w ∷ []) z.0) k (same, st)

-- a terminal after a section's name and a comma
flags_terminal : (sc0 sc : ScopeView) (b : ℕ) (n m : List ℕ) (p : Word) (ps : List Word) (w : Word) (y : ScopeView × StatementState)
    → sc0 ≡ sc → InFlags sc0 (p ∷ ps) b n m → (s : Terminal) → terminal_of w.kind w.bytes ≡ s
    → next_step sc (state.Flags b n m) w.line s ≡ Ok y → HeldBy sc0 (ending_at (w.at + length w.bytes) y.1) p (ps ++ w ∷ []) y.0
flags_terminal sc0 sc b n m p ps w y same g terminal.End is h =
    let k : (sectioned sc b n m, state.Start) ≡ y = cc in
    let st : IsStatement sc0 (p ∷ (ps ++ w ∷ [])) (sectioned sc b n m) =
    subst (λ (x : ScopeView). IsStatement sc0 (p ∷ (ps ++ w ∷ [])) (sectioned x b n m)) same
    (g (w ∷ []) [] (ap (λ (x : Terminal). x ∷ []) is) refl) in
    subst (λ (z : ScopeView × StatementState). HeldBy sc0 (ending_at (w.at + length w.bytes) z.1) p (ps ++ w ∷ []) z.0) k st
flags_terminal sc0 sc b n m p ps w y same g terminal.Percent is h =
    flags_stay sc0 sc b n m p ps w y same g terminal.Percent is refl (ok_same (sc, state.Flags b n m) y h)
flags_terminal sc0 sc b n m p ps w y same g s is h = flags_stay sc0 sc b n m p ps w y same g s is refl (ok_same (sc, state.Flags b n m) y h)

pub held_more : (sc0 sc : ScopeView) (st : StatementState) (p : Word) (ps : List Word) (w : Word) (z : ScopeView × StatementState)
    → (st ≡ state.Start → ⊥) → HeldBy sc0 st p ps sc → next_word sc st w ≡ Ok z → HeldBy sc0 z.1 p (ps ++ w ∷ []) z.0
held_more sc0 sc state.Start p ps w z inside g h = absurd (inside refl)
held_more sc0 sc (state.Named b n) p ps w z inside g h = plain_more sc0 sc (state.Named b n) p ps w z inside refl g h
held_more sc0 sc state.Skip p ps w z inside g h = plain_more sc0 sc state.Skip p ps w z inside refl g h
held_more sc0 sc (state.Sectioned b n m e) p ps w z inside g h = name_more sc0 sc b n m e p ps w z g h
held_more sc0 sc (state.Flags b n m) p ps w z inside g h = elim (word_goes sc (state.Flags b n m) w z h) [
  | WordGoes.on t k ↦ absurd cc
  | WordGoes.as_terminal y t f k ↦ held_is sc0 p (ps ++ w ∷ []) z (y.0, ending_at (w.at + length w.bytes) y.1) k
      (flags_terminal sc0 sc b n m p ps w y g.0 g.1 (terminal_of w.kind w.bytes) refl f)
]
held_more sc0 sc (state.Arguments o) p ps w z inside g h = plain_more sc0 sc (state.Arguments o) p ps w z inside refl g h
held_more sc0 sc (state.Stray l c) p ps w z inside g h = plain_more sc0 sc (state.Stray l c) p ps w z inside refl g h

-- the first word of a statement
pub first_held : (sc : ScopeView) (w : Word) (z : ScopeView × StatementState) → next_word sc state.Start w ≡ Ok z → HeldBy sc z.1 w [] z.0
first_held sc w z h = elim (word_goes sc state.Start w z h) [
  | WordGoes.on t k ↦ absurd cc
  | WordGoes.as_terminal y t f k ↦
      let b : Begun sc w.line y.1 (terminal_of w.kind w.bytes ∷ []) y.0 = next_begun sc sc w.line w.line state.Start
      (terminal_of w.kind w.bytes ∷ []) (terminal_of w.kind w.bytes) y (start_begun sc w.line (terminal_of w.kind w.bytes) y) f in
      held_is sc w [] z (y.0, ending_at (w.at + length w.bytes) y.1) k
      (begun_held sc y.0 y.1 w [] (w.at + length w.bytes) (λ v e. absurd cc) b)
]

abbrev Collects : List Word → ScopeView → Type 0
Collects ws scz = (sc0 sc : ScopeView) (st : StatementState) (piece : List Word) → Held sc0 st piece sc
    → read_words sc st ws ≡ Ok (scz, state.Start) → Statements sc0 (piece ++ ws) scz

next_piece : (w : Word) (ps ws : List Word) (sc0 scz sc : ScopeView) (st : StatementState) → HeldBy sc0 st w ps sc
    → read_words sc st ws ≡ Ok (scz, state.Start) → Collects ws scz → Statements sc0 (w ∷ (ps ++ ws)) scz
next_piece w ps ws sc0 scz sc state.Start b h ih = Statements.more (w ∷ ps) ws refl b (ih sc sc state.Start [] (refl, refl) h)
next_piece w ps ws sc0 scz sc st b h ih = ih sc0 sc st (w ∷ ps) ((λ e. absurd cc), b) h

collect : (ws : List Word) (scz : ScopeView) → Collects ws scz
collect [] scz sc0 sc st [] held h = let e : (sc, st) ≡ (scz, state.Start) =
    cc in subst (Statements sc0 []) (held.1 ∙ ap (λ (x : ScopeView × StatementState). x.0) e) Statements.none
collect [] scz sc0 sc st (w ∷ ps) held h = let e : (sc, st) ≡ (scz, state.Start) =
    cc in absurd (held.0 (ap (λ (x : ScopeView × StatementState). x.1) e))
collect (w ∷ ws) scz sc0 sc st [] held h =
    let z = bind_ok (placed (fault_line sc st w.line) (next_word sc st w)) (λ z. read_words z.0 z.1 ws) (scz, state.Start) h in
    let e = placed_goes (fault_line sc st w.line) (next_word sc st w) z.0 z.1 in
    let e2 : next_word sc state.Start w ≡ Ok z.0 = subst (λ (x : StatementState). next_word sc x w ≡ Ok z.0) held.0 e in
    let b : HeldBy sc0 z.0.1 w [] z.0.0 = subst (λ (x : ScopeView). HeldBy x z.0.1 w [] z.0.0) (sym held.1) (first_held sc w z.0 e2) in
    next_piece w [] ws sc0 scz z.0.0 z.0.1 b z.2 (collect ws scz)
collect (w ∷ ws) scz sc0 sc st (p ∷ ps) held h =
    let z = bind_ok (placed (fault_line sc st w.line) (next_word sc st w)) (λ z. read_words z.0 z.1 ws) (scz, state.Start) h in
    let e = placed_goes (fault_line sc st w.line) (next_word sc st w) z.0 z.1 in
    let all : Statements sc0 (p ∷ ((ps ++ w ∷ []) ++ ws)) scz =
    next_piece p (ps ++ w ∷ []) ws sc0 scz z.0.0 z.0.1 (held_more sc0 sc st p ps w z.0 held.0 held.1 e) z.2 (collect ws scz) in
    subst (λ (x : List Word). Statements sc0 (p ∷ x) scz) (append_assoc ps (w ∷ []) ws) all

-- What is read are statements.
pub are_statements : (ws : List Word) (sc scz : ScopeView) → read_words sc state.Start ws ≡ Ok (scz, state.Start) → Statements sc ws scz
are_statements ws sc scz h = collect ws scz sc sc state.Start [] (refl, refl) h
