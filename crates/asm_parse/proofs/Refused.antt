-- A text that is refused is refused for the first word with which no source goes on, or for what ends its words.
use Rattle.std.proofs.Common.{◌≡◌, ℕ, Bool, true, false, cond, List, [], ◌∷◌, ◌++◌, length, Option, Some, None, Ok, Err, refl, sym, ap, subst, ◌∙◌, ◌⊎◌, inl, inr, append_assoc}
use Rattle.std.proofs.lemmas.List.{append-nil}
use Rattle.std.specs.Prelude.{◌+◌, ◌&&◌, ◌||◌, unwrap_or}
use Rattle.std.specs.Bool.{then_some}
use Rattle.asm_lex.specs.declared.fault.SourceCause.{SourceCause}
use Rattle.asm_lex.specs.declared.fault.SourceCause.TheVariants as cause
use Rattle.asm_lex.specs.Words.{Word}
use Rattle.asm_argument.specs.declared.terminal.Terminal.{Terminal}
use Rattle.asm_argument.specs.declared.terminal.Terminal.TheVariants as terminal
use Rattle.asm_statement.specs.declared.state.Open.{Open}
use Rattle.asm_statement.specs.declared.state.StatementState.{StatementState}
use Rattle.asm_statement.specs.declared.state.StatementState.TheVariants as state
use Rattle.asm_statement.specs.ScopeView.{ScopeView}
use Rattle.asm_statement.specs.Scope.{fresh}
use Rattle.asm_statement.specs.Statement.{step, next_step, fault_line, doom, pending, stopped, left_open, open_at_end, is_unknown, is_taken, lacks_names, is_place, strayed, with_scope, unless_skipping}
use Rattle.asm_statement.specs.Items.{sectioned}
use Rattle.asm_statement.specs.Reading.{Fault, placed, is_longer, longer, ending_at, next_word}
use Rattle.asm_argument.specs.Terminals.{terminal_of}
use Rattle.asm_statement.specs.Running.{◌>>=◌}
use Rattle.asm_parse.specs.Statements.{is_inner, terminals, IsStatement, Statements}
use Rattle.asm_parse.specs.Refusals.{Ending, IsBeginning, StatementPlace, Reaches, percent_cause, refused_cause, byte_cause}
use Rattle.asm_parse.proofs.Words.{read_words}
use Rattle.asm_parse.proofs.Scopes.{GoodIn, fresh_good}
use Rattle.asm_parse.proofs.Quiet.{Any, any_next, WordGoes, word_goes, Answer}
use Rattle.asm_parse.proofs.Stated.{words_append, is_naming, not_longer}
use Rattle.asm_parse.proofs.Said.{Begun, begun_more, next_begun, start_begun}
use Rattle.asm_parse.proofs.Collected.{Held, HeldBy, held_more, first_held}
use Rattle.asm_parse.proofs.Closing.{AreNamed}
use Rattle.asm_parse.proofs.Places.{Extra, InSection, Standing, standing, all_more, all_and, section_words}
use Rattle.asm_parse.proofs.Walking.{fault_in, first_name_cause, beginning, refused_never, doomed_never, Found, word_fails, stray_fault, name_fault, Doomed, doomed_word, placed_in, some_same}

-- ---- what is known besides, one word later

ending_flags : (st : StatementState) (e b : ℕ) (n m : List ℕ) → ending_at e st ≡ state.Flags b n m → st ≡ state.Flags b n m
ending_flags (state.Sectioned a k l x) e b n m h = absurd cc
ending_flags state.Start e b n m h = h
ending_flags _ e b n m h = h

ending_arguments : (st : StatementState) (e : ℕ) (o : Open) → ending_at e st ≡ state.Arguments o → st ≡ state.Arguments o
ending_arguments (state.Sectioned a k l x) e o h = absurd cc
ending_arguments state.Start e o h = h
ending_arguments _ e o h = h

no_arguments : StatementState → Bool
no_arguments (state.Arguments o) = false
no_arguments _ = true

abbrev Quietly : Answer → Type 0
Quietly (Ok y) = (o : Open) → y.1 ≡ state.Arguments o → ⊥
Quietly (Err c) = Unit {0}

skips : (sc : ScopeView) (c : SourceCause) (t : Bool) → Quietly (with_scope sc (unless_skipping t c))
skips sc c true = λ o e. absurd cc
skips sc c false = tt

start_quiet : (sc : ScopeView) (line : ℕ) (s : Terminal) → Quietly (step sc state.Start line s)
start_quiet sc line terminal.End = λ o e. absurd cc
start_quiet sc line (terminal.Name n) = λ o e. absurd cc
start_quiet sc line terminal.Big = skips sc cause.BadNumber sc.skipping
start_quiet sc line _ = skips sc cause.BadOperand sc.skipping

strayed_quiet : (line : ℕ) (r : Answer) → Quietly r → Quietly (strayed line r)
strayed_quiet line (Ok x) h = h
strayed_quiet line (Err c) h = by_place (is_place c)
  where
    by_place : (t : Bool) → Quietly (cond t (Ok (fresh, state.Stray line c)) (Err c))
    by_place true = λ o e. absurd cc
    by_place false = tt

first_quiet : (sc : ScopeView) (line : ℕ) (s : Terminal) → Quietly (next_step sc state.Start line s)
first_quiet sc line terminal.Percent =
    strayed_quiet (fault_line sc state.Start line) (step sc state.Start line terminal.Percent) (start_quiet sc line terminal.Percent)
first_quiet sc line s = start_quiet sc line s

begun_flags : (sc0 sc : ScopeView) (line : ℕ) (ss : List Terminal) (st : StatementState) (b : ℕ) (n m : List ℕ) → Begun sc0 line st ss sc
    → st ≡ state.Flags b n m → ⊥
begun_flags sc0 sc line ss st b n m g e = subst (λ (x : StatementState). Begun sc0 line x ss sc) e g

more_section : (sc0 : ScopeView) (ps : List Word) (w : Word) → InSection sc0 (terminals ps) → is_inner (terminal_of w.kind w.bytes) ≡ true
    → InSection sc0 (terminals (ps ++ w ∷ []))
more_section sc0 ps w g inner = record {
  directive = g.directive;
  name = g.name;
  more = g.more ++ terminal_of w.kind w.bytes ∷ [];
  whole = terminals_end ps w ∙ ap (λ (x : List Terminal). x ++ terminal_of w.kind w.bytes ∷ []) g.whole;
  naming = g.naming;
  inner = all_more g.more (terminal_of w.kind w.bytes ∷ []) g.inner (all_and (terminal_of w.kind w.bytes) [] inner refl);
}
  where
    terminals_end : (ps : List Word) (w : Word) → terminals (ps ++ w ∷ []) ≡ terminals ps ++ terminal_of w.kind w.bytes ∷ []
    terminals_end [] w = refl
    terminals_end (p ∷ ps) w = ap (λ (x : List Terminal). terminal_of p.kind p.bytes ∷ x) (terminals_end ps w)

module _ (sc0 sc : ScopeView) (w : Word) (z : ScopeView × StatementState) where
  -- the state's terminal, where no section's name is open
  plain_flags : (st : StatementState) (p : Word) (ps : List Word) (b : ℕ) (n m : List ℕ) → (st ≡ state.Start → ⊥) → is_naming st ≡ false
      → Begun sc0 p.line st (terminals (p ∷ ps)) sc → next_word sc st w ≡ Ok z → z.1 ≡ state.Flags b n m → ⊥
  plain_flags st p ps b n m inside plain g h e = elim (word_goes sc st w z h) [
    | WordGoes.on t k ↦ absurd (both t (not_longer st w.at w.kind w.bytes plain))
    | WordGoes.as_terminal y t f k ↦
        let flags : y.1 ≡ state.Flags b n m =
        ending_flags y.1 (w.at + length w.bytes) b n m (sym (ap (λ (x : ScopeView × StatementState). x.1) k) ∙ e) in
        begun_flags sc0 y.0 p.line (terminals (p ∷ ps) ++ terminal_of w.kind w.bytes ∷ []) y.1 b n m
        (next_begun sc0 sc p.line w.line st (terminals (p ∷ ps) ++ terminal_of w.kind w.bytes ∷ []) (terminal_of w.kind w.bytes) y
        (begun_more sc0 sc p.line w.line st (terminals (p ∷ ps)) (terminal_of w.kind w.bytes) y inside plain g) f) flags
  ]
    where
      both : {t : Bool} → t ≡ true → t ≡ false → ⊥
      both e f = absurd cc

  start_flags : (b : ℕ) (n m : List ℕ) → next_word sc state.Start w ≡ Ok z → z.1 ≡ state.Flags b n m → ⊥
  start_flags b n m h e = elim (word_goes sc state.Start w z h) [
    | WordGoes.on t k ↦ absurd cc
    | WordGoes.as_terminal y t f k ↦
        let flags : y.1 ≡ state.Flags b n m =
        ending_flags y.1 (w.at + length w.bytes) b n m (sym (ap (λ (x : ScopeView × StatementState). x.1) k) ∙ e) in
        begun_flags sc y.0 w.line (terminal_of w.kind w.bytes ∷ []) y.1 b n m
        (next_begun sc sc w.line w.line state.Start (terminal_of w.kind w.bytes ∷ []) (terminal_of w.kind w.bytes) y
        (start_begun sc w.line (terminal_of w.kind w.bytes) y) f) flags
  ]

  inner_or : (s : Terminal) → (s ≡ terminal.End) ⊎ (is_inner s ≡ true)
  inner_or terminal.End = inl refl
  inner_or s = inr refl

  -- an end leads after the statement
  name_ended : (line a : ℕ) (k l : List ℕ) (x b : ℕ) (n m : List ℕ) (y : ScopeView × StatementState)
      → next_step sc (state.Sectioned a k l x) line terminal.End ≡ Ok y → y.1 ≡ state.Flags b n m → ⊥
  name_ended line a k l x b n m y h e = let g : (sectioned sc a k l, state.Start) ≡ y =
      cc in let f : state.Start ≡ state.Flags b n m = ap (λ (v : ScopeView × StatementState). v.1) g ∙ e in absurd cc

  flags_ended : (line a : ℕ) (k l : List ℕ) (b : ℕ) (n m : List ℕ) (y : ScopeView × StatementState)
      → next_step sc (state.Flags a k l) line terminal.End ≡ Ok y → y.1 ≡ state.Flags b n m → ⊥
  flags_ended line a k l b n m y h e = let g : (sectioned sc a k l, state.Start) ≡ y =
      cc in let f : state.Start ≡ state.Flags b n m = ap (λ (v : ScopeView × StatementState). v.1) g ∙ e in absurd cc

  flags_inner : (st : StatementState) (b : ℕ) (n m : List ℕ)
      → ((y : ScopeView × StatementState) → next_step sc st w.line terminal.End ≡ Ok y → y.1 ≡ state.Flags b n m → ⊥)
      → ((longer_to : StatementState) → longer_to ≡ longer st (w.at + length w.bytes) w.bytes → is_longer st w.at w.kind w.bytes ≡ true
      → longer_to ≡ state.Flags b n m → ⊥)
      → next_word sc st w ≡ Ok z → z.1 ≡ state.Flags b n m → is_inner (terminal_of w.kind w.bytes) ≡ true
  flags_inner st b n m never never_on h e = elim (word_goes sc st w z h) [
    | WordGoes.on t k ↦ absurd (never_on z.1 (ap (λ (v : ScopeView × StatementState). v.1) k) t e)
    | WordGoes.as_terminal y t f k ↦
        let flags : y.1 ≡ state.Flags b n m =
        ending_flags y.1 (w.at + length w.bytes) b n m (sym (ap (λ (x : ScopeView × StatementState). x.1) k) ∙ e) in
        elim (inner_or (terminal_of w.kind w.bytes)) [
          | inl end ↦ absurd (never y (ap (next_step sc st w.line) (sym end) ∙ f) flags)
          | inr inner ↦ inner
        ]
  ]

  start_arguments : (o : Open) → next_word sc state.Start w ≡ Ok z → z.1 ≡ state.Arguments o → ⊥
  start_arguments o h e = elim (word_goes sc state.Start w z h) [
    | WordGoes.on t k ↦ absurd cc
    | WordGoes.as_terminal y t f k ↦
        let arguments : y.1 ≡ state.Arguments o =
        ending_arguments y.1 (w.at + length w.bytes) o (sym (ap (λ (x : ScopeView × StatementState). x.1) k) ∙ e) in
        let quiet : Quietly (Ok y) = subst Quietly f (first_quiet sc w.line (terminal_of w.kind w.bytes)) in
        quiet o arguments
  ]

  flags_extra : (st : StatementState) (ps : List Word) (b : ℕ) (n m : List ℕ) → Held sc0 st ps sc → Extra sc0 st ps
      → next_word sc st w ≡ Ok z → z.1 ≡ state.Flags b n m → InSection sc0 (terminals (ps ++ w ∷ []))
  flags_extra st [] b n m held extra h e = absurd (start_flags b n m (subst (λ (x : StatementState). next_word sc x w ≡ Ok z) held.0 h) e)
  flags_extra state.Start (p ∷ ps) b n m held extra h e = absurd (held.0 refl)
  flags_extra (state.Named a k) (p ∷ ps) b n m held extra h e = absurd (plain_flags (state.Named a k) p ps b n m held.0 refl held.1 h e)
  flags_extra state.Skip (p ∷ ps) b n m held extra h e = absurd (plain_flags state.Skip p ps b n m held.0 refl held.1 h e)
  flags_extra (state.Sectioned a k l x) (p ∷ ps) b n m held extra h e =
      section_words sc0 (p ∷ ps) a k l x held.1.1 (w ∷ [])
      (all_and (terminal_of w.kind w.bytes) [] (flags_inner (state.Sectioned a k l x) b n m (λ y f g. name_ended w.line a k l x b n m y f g)
      (λ v f t g. absurd cc) h e) refl)
  flags_extra (state.Flags a k l) (p ∷ ps) b n m held extra h e =
      more_section sc0 (p ∷ ps) w extra
      (flags_inner (state.Flags a k l) b n m (λ y f g. flags_ended w.line a k l b n m y f g) (λ v f t g. absurd cc) h e)
  flags_extra (state.Arguments o) (p ∷ ps) b n m held extra h e = absurd (plain_flags (state.Arguments o) p ps b n m held.0 refl held.1 h e)
  flags_extra (state.Stray l c) (p ∷ ps) b n m held extra h e = absurd (plain_flags (state.Stray l c) p ps b n m held.0 refl held.1 h e)

  arguments_extra : (st : StatementState) (ps : List Word) (o : Open) → Held sc0 st ps sc → next_word sc st w ≡ Ok z
      → z.1 ≡ state.Arguments o → Extra sc0 (state.Arguments o) (ps ++ w ∷ [])
  arguments_extra st [] o held h e = absurd (start_arguments o (subst (λ (x : StatementState). next_word sc x w ≡ Ok z) held.0 h) e)
  arguments_extra st (p ∷ []) o held h e = (p, w, [], refl)
  arguments_extra st (p ∷ q ∷ ps) o held h e = (p, q, ps ++ w ∷ [], refl)

  pub extra_more : (st : StatementState) (ps : List Word) → Held sc0 st ps sc → Extra sc0 st ps → next_word sc st w ≡ Ok z
      → Extra sc0 z.1 (ps ++ w ∷ [])
  extra_more st ps held extra h = by_state z.1 refl
    where
      by_state : (st2 : StatementState) → z.1 ≡ st2 → Extra sc0 st2 (ps ++ w ∷ [])
      by_state (state.Flags b n m) e = flags_extra st ps b n m held extra h e
      by_state (state.Arguments o) e = arguments_extra st ps o held h e
      by_state _ e = tt

-- ---- word by word

statements_append : {sc sc2 sc3 : ScopeView} {ws ps : List Word} → Statements sc ws sc2 → IsStatement sc2 ps sc3
    → Statements sc (ws ++ ps) sc3
statements_append {ps} Statements.none st = Statements.more ps [] (sym (append-nil ps)) st Statements.none
statements_append {ps} (Statements.more piece rest e is tail) st =
    Statements.more piece (rest ++ ps) (ap (λ (x : List Word). x ++ ps) e ∙ append_assoc piece rest ps) is (statements_append tail st)

pub named_front : (xs ys : List Word) → AreNamed (xs ++ ys) → AreNamed xs
named_front [] ys h = tt
named_front (x ∷ xs) ys h = (h.0, named_front xs ys h.1)

-- the words so far: whole statements and those of one that has begun
record Walk (all ws : List Word) (sc : ScopeView) (st : StatementState) : Type 0 where
  before : List Word
  begun : List Word
  scope : ScopeView
  whole : all ≡ (before ++ begun) ++ ws
  runs : read_words fresh state.Start (before ++ begun) ≡ Ok (sc, st)
  statements : Statements fresh before scope
  held : Held scope st begun sc
  extra : Extra scope st begun
  good : GoodIn Any sc
  alive : doom sc st ≡ None

onward : (all ws before : List Word) (sc0 : ScopeView) (hd : Word) (ps : List Word) (sc : ScopeView) (st : StatementState)
    → all ≡ (before ++ (hd ∷ ps)) ++ ws → read_words fresh state.Start (before ++ (hd ∷ ps)) ≡ Ok (sc, st) → Statements fresh before sc0
    → HeldBy sc0 st hd ps sc → Extra sc0 st (hd ∷ ps) → GoodIn Any sc → doom sc st ≡ None → Walk all ws sc st
onward all ws before sc0 hd ps sc state.Start whole runs statements held extra good alive = record {
  before = before ++ (hd ∷ ps);
  begun = [];
  scope = sc;
  whole = whole ∙ ap (λ (x : List Word). x ++ ws) (sym (append-nil (before ++ (hd ∷ ps))));
  runs = ap (read_words fresh state.Start) (append-nil (before ++ (hd ∷ ps))) ∙ runs;
  statements = statements_append statements held;
  held = (refl, refl);
  extra = tt;
  good = good;
  alive = alive;
}
onward all ws before sc0 hd ps sc st whole runs statements held extra good alive = record {
  before = before;
  begun = hd ∷ ps;
  scope = sc0;
  whole = whole;
  runs = runs;
  statements = statements;
  held = ((λ e. absurd cc), held);
  extra = extra;
  good = good;
  alive = alive;
}

module _ (all ws : List Word) (w : Word) (sc : ScopeView) (st : StatementState) (k : Walk all (w ∷ ws) sc st)
    (z : ScopeView × StatementState) (h : next_word sc st w ≡ Ok z) where
  good_next : GoodIn Any z.0
  good_next = let n = any_next sc st w z k.good h in n.scope

  new_runs : read_words fresh state.Start ((k.before ++ k.begun) ++ w ∷ []) ≡ Ok z
  new_runs = words_append (k.before ++ k.begun) (w ∷ []) fresh state.Start (sc, st) k.runs
      ∙ ap (λ (r : Answer). placed (fault_line sc st w.line) r >>= λ y. read_words y.0 y.1 []) h

  new_whole : all ≡ (k.before ++ (k.begun ++ w ∷ [])) ++ ws
  new_whole =
      k.whole ∙ (sym (append_assoc (k.before ++ k.begun) (w ∷ []) ws) ∙ ap (λ (x : List Word). x ++ ws)
      (append_assoc k.before k.begun (w ∷ [])))

  joined_runs : read_words fresh state.Start (k.before ++ (k.begun ++ w ∷ [])) ≡ Ok z
  joined_runs = ap (read_words fresh state.Start) (sym (append_assoc k.before k.begun (w ∷ []))) ∙ new_runs

  walk_next : doom z.0 z.1 ≡ None → Walk all ws z.0 z.1
  walk_next alive = by_begun k.begun k.held new_whole joined_runs (extra_more k.scope sc w z st k.begun k.held k.extra h)
    where
      by_begun : (ps : List Word) → Held k.scope st ps sc → all ≡ (k.before ++ (ps ++ w ∷ [])) ++ ws
          → read_words fresh state.Start (k.before ++ (ps ++ w ∷ [])) ≡ Ok z → Extra k.scope z.1 (ps ++ w ∷ []) → Walk all ws z.0 z.1
      by_begun [] held whole runs extra =
          let e : next_word sc state.Start w ≡ Ok z = subst (λ (x : StatementState). next_word sc x w ≡ Ok z) held.0 h in
          let b : HeldBy k.scope z.1 w [] z.0 = subst (λ (x : ScopeView). HeldBy x z.1 w [] z.0) (sym held.1) (first_held sc w z e) in
          onward all ws k.before k.scope w [] z.0 z.1 whole runs k.statements b extra good_next alive
      by_begun (p ∷ ps) held whole runs extra = onward all ws k.before k.scope p (ps ++ w ∷ []) z.0 z.1 whole runs k.statements
          (held_more k.scope sc st p ps w z held.0 held.1 h) extra good_next alive

abbrev Later : List Word → Ending → Fault → List Word → Type 0
Later all e f ws = (sc2 : ScopeView) (st2 : StatementState) → Walk all ws sc2 st2 → fault_in sc2 st2 ws e ≡ Some f → Found all e f

module _ (all : List Word) (e : Ending) (f : Fault) (named : AreNamed all) where
  module _ (ws : List Word) (sc : ScopeView) (st : StatementState) (k : Walk all ws sc st) where
    stands : Standing k.scope st k.begun sc
    stands = standing k.scope st k.begun sc k.held k.extra k.alive

    reaches : Reaches (k.before ++ k.begun) k.scope stands.place
    reaches = record { before = k.before; begun = k.begun; whole = refl; statements = k.statements; stands = stands.stands }

    begins : IsBeginning (k.before ++ k.begun)
    begins = beginning (k.before ++ k.begun) sc st (named_front (k.before ++ k.begun) ws (subst AreNamed k.whole named)) k.runs k.alive

  at_end : (sc : ScopeView) (st : StatementState) (k : Walk all [] sc st) (d : Ending) → e ≡ d
      → fault_in sc st [] d ≡ Some f → Found all e f
  at_end sc st k Ending.whole is h = absurd cc
  at_end sc st k (Ending.broken l c) is h =
      let r = reaches [] sc st k in
      let whole : (k.before ++ k.begun) ≡ all = sym (k.whole ∙ append-nil (k.before ++ k.begun)) in
      let s = stands [] sc st k in
      let fault : f ≡ (l, byte_cause k.scope s.place c) = sym (some_same (stopped sc st l c) f h)
      ∙ (ap (λ (x : Option ℕ). (unwrap_or x l, unwrap_or (pending sc st) c)) k.alive ∙ ap (λ (x : SourceCause). (l, x)) (s.suits.byte c)) in
      Found.byte is (subst IsBeginning whole (begins [] sc st k)) (subst (λ (x : List Word). Reaches x k.scope s.place) whole r) fault
  at_end sc st k (Ending.comment l) is h =
      let whole : (k.before ++ k.begun) ≡ all = sym (k.whole ∙ append-nil (k.before ++ k.begun)) in
      let fault : f ≡ (l, cause.OpenComment) =
      sym (some_same (left_open sc st l) f h) ∙ ap (λ (x : Option ℕ). open_at_end x (pending sc st) l) k.alive in
      Found.comment is (subst IsBeginning whole (begins [] sc st k)) fault

  at_refused : (w : Word) (ws : List Word) (sc : ScopeView) (st : StatementState) (c : SourceCause) → Walk all (w ∷ ws) sc st
      → next_word sc st w ≡ Err c → placed_in (fault_line sc st w.line) ws e (Err c) ≡ Some f → Found all e f
  at_refused w ws sc st c k h g =
      let s = stands (w ∷ ws) sc st k in
      let same = s.suits.cause w.line (terminal_of w.kind w.bytes) (terminals ws) c (word_fails sc st w c h) in
      let fault : f ≡ (w.line, refused_cause k.scope s.place (terminal_of w.kind w.bytes) (terminals ws)) =
      sym (some_same (fault_line sc st w.line, c) f g)
      ∙ (ap (λ (x : Option ℕ). (unwrap_or x w.line, c)) k.alive ∙ ap (λ (x : SourceCause). (w.line, x)) (sym same)) in
      Found.word (k.before ++ k.begun) ws w k.whole (begins (w ∷ ws) sc st k)
      (refused_never (k.before ++ k.begun) w sc st (fault_line sc st w.line, c) k.runs (ap (placed (fault_line sc st w.line)) h))
      (reaches (w ∷ ws) sc st k) fault

  at_doomed : (w : Word) (ws : List Word) (sc : ScopeView) (st : StatementState) (z : ScopeView × StatementState) (l : ℕ)
      (k : Walk all (w ∷ ws) sc st) → next_word sc st w ≡ Ok z → doom z.0 z.1 ≡ Some l → fault_in z.0 z.1 ws e ≡ Some f → Found all e f
  at_doomed w ws sc st z l k h d g =
      Found.word (k.before ++ k.begun) ws w k.whole (begins (w ∷ ws) sc st k)
      (doomed_never (k.before ++ k.begun) w sc st z l k.runs h (good_next all ws w sc st k z h) d) (reaches (w ∷ ws) sc st k)
      (by_doomed (doomed_word sc st w z l h d))
    where
      same_line : (t : Bool) (b l : ℕ) → then_some t b ≡ Some l → then_some t b ≡ Some b
      same_line true b l h = refl
      same_line false b l h = absurd cc

      by_doomed : Doomed sc st w z
          → f ≡ (w.line, refused_cause k.scope (stands (w ∷ ws) sc st k).place (terminal_of w.kind w.bytes) (terminals ws))
      by_doomed (Doomed.name n x y q) =
          let at_first = (stands (w ∷ ws) sc st k).suits.first x in
          let dead : doom sc (state.Named w.line n) ≡ Some l = sym (ap (λ (v : ScopeView × StatementState). doom v.0 v.1) q) ∙ d in
          let dead2 : doom sc (state.Named w.line n) ≡ Some w.line =
          same_line ((is_unknown sc n && is_taken sc n) || lacks_names sc n) w.line l dead in
          let fault : f ≡ (w.line, first_name_cause sc n (terminals ws)) =
          name_fault sc w.line n ws e f k.good dead2 (sym (ap (λ (v : ScopeView × StatementState). fault_in v.0 v.1 ws e) q) ∙ g) in
          let same : refused_cause k.scope (stands (w ∷ ws) sc st k).place (terminal_of w.kind w.bytes) (terminals ws) ≡ first_name_cause
          sc n (terminals ws) =
          ap (λ (v : StatementPlace). refused_cause k.scope v (terminal_of w.kind w.bytes) (terminals ws)) at_first.1
          ∙ (ap (λ (v : Terminal). refused_cause k.scope StatementPlace.first v (terminals ws)) y
          ∙ ap (λ (v : ScopeView). first_name_cause v n (terminals ws)) at_first.0) in
          fault ∙ ap (λ (v : SourceCause). (w.line, v)) (sym same)
      by_doomed (Doomed.astray c y x p q) =
          let at_line : z ≡ (fresh, state.Stray w.line c) =
          q ∙ ap (λ (o : Option ℕ). (fresh, state.Stray (unwrap_or o w.line) c)) k.alive in
          let fault : f ≡ (w.line, percent_cause c (terminals ws)) =
          stray_fault fresh w.line c ws e f p (sym (ap (λ (v : ScopeView × StatementState). fault_in v.0 v.1 ws e) at_line) ∙ g) in
          let same : refused_cause k.scope (stands (w ∷ ws) sc st k).place (terminal_of w.kind w.bytes) (terminals ws)
          ≡ percent_cause c (terminals ws) =
          ap (λ (v : Terminal). refused_cause k.scope (stands (w ∷ ws) sc st k).place v (terminals ws)) y
          ∙ (stands (w ∷ ws) sc st k).suits.percent w.line (terminals ws) c x in
          fault ∙ ap (λ (v : SourceCause). (w.line, v)) (sym same)

  find : (ws : List Word) (sc : ScopeView) (st : StatementState) → Walk all ws sc st → fault_in sc st ws e ≡ Some f → Found all e f
  find [] sc st k h = at_end sc st k e refl h
  find (w ∷ ws) sc st k h = by_result (λ sc2 st2 k2 g. find ws sc2 st2 k2 g) (next_word sc st w) refl h
    where
      by_doom : Later all e f ws → (z : ScopeView × StatementState) → next_word sc st w ≡ Ok z → fault_in z.0 z.1 ws e ≡ Some f
          → (d : Option ℕ) → doom z.0 z.1 ≡ d → Found all e f
      by_doom ih z r g None d = ih z.0 z.1 (walk_next all ws w sc st k z r d) g
      by_doom ih z r g (Some l) d = at_doomed w ws sc st z l k r d g

      by_result : Later all e f ws → (r : Answer) → next_word sc st w ≡ r
          → placed_in (fault_line sc st w.line) ws e r ≡ Some f → Found all e f
      by_result ih (Err c) r g = at_refused w ws sc st c k r g
      by_result ih (Ok z) r g = by_doom ih z r g (doom z.0 z.1) refl

-- Where words have a fault, it is found so.
pub found_fault : (ws : List Word) (e : Ending) (f : Fault) → AreNamed ws → fault_in fresh state.Start ws e ≡ Some f → Found ws e f
found_fault ws e f named h =
    find ws e f named ws fresh state.Start (record {
      before = [];
      begun = [];
      scope = fresh;
      whole = refl;
      runs = refl;
      statements = Statements.none;
      held = (refl, refl);
      extra = tt;
      good = fresh_good Any;
      alive = refl;
    }) h
