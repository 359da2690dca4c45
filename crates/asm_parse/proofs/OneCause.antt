-- A text is refused in one line for one cause, and one that is refused has no reading.
use Rattle.std.proofs.Common.{◌≡◌, ℕ, List, [], ◌∷◌, ◌++◌, Option, Some, None, Result, Ok, Err, refl, sym, ap, subst, ◌∙◌, ◌⊎◌, inl, inr, append_assoc}
use Rattle.std.proofs.lemmas.List.{append-nil}
use Rattle.asm_lex.specs.declared.fault.SourceCause.{SourceCause}
use Rattle.asm_lex.specs.declared.fault.SourceFault.{SourceFault}
use Rattle.asm_lex.specs.declared.fault.SourceFault.TheVariants as fault
use Rattle.asm_lex.specs.Words.{Word}
use Rattle.asm_argument.specs.declared.terminal.Terminal.{Terminal}
use Rattle.asm_source.specs.declared.tree.SourceItem.{SourceItem}
use Rattle.asm_statement.specs.declared.state.StatementState.{StatementState}
use Rattle.asm_statement.specs.declared.state.StatementState.TheVariants as state
use Rattle.asm_statement.specs.ScopeView.{ScopeView}
use Rattle.asm_statement.specs.Scope.{fresh}
use Rattle.asm_argument.specs.Terminals.{terminal_of}
use Rattle.asm_statement.specs.Statement.{doom, fault_line}
use Rattle.asm_statement.specs.Reading.{placed, next_word}
use Rattle.asm_parse.specs.Reads.{HasReading}
use Rattle.asm_statement.specs.Running.{◌>>=◌, read, Parses}
use Rattle.asm_parse.specs.Statements.{terminals, Statements}
use Rattle.asm_parse.specs.Refusals.{Ending, Worded, IsBeginning, IsNoBeginning, StatementPlace, Reaches, refused_cause, byte_cause, Refused}
use Rattle.asm_lex.specs.Refused.{RefusesAs}
use Rattle.asm_parse.proofs.Words.{read_words}
use Rattle.asm_parse.proofs.Scopes.{GoodIn, fresh_good}
use Rattle.asm_parse.proofs.Quiet.{Any, any_next, Answer}
use Rattle.asm_parse.proofs.Lines.{bind_ok, placed_goes}
use Rattle.asm_parse.proofs.Dying.{words_doomed}
use Rattle.asm_parse.proofs.Stated.{words_append, statements_run}
use Rattle.asm_parse.proofs.Closing.{AreNamed}
use Rattle.asm_parse.proofs.Places.{Suits}
use Rattle.asm_parse.proofs.Walking.{beginning, word_fails, Doomed, doomed_word}
use Rattle.asm_parse.proofs.Refused.{named_front}
use Rattle.asm_parse.proofs.Worded.{lexed_worded}
use Rattle.asm_parse.proofs.Faulted.{worded_named, parsed_refused}
use Rattle.asm_parse.proofs.Sources.{read_is}
use Rattle.asm_parse.proofs.OneWording.{one_wording}
use Rattle.asm_parse.proofs.Reread.{Pair, prefix_runs}
use Rattle.asm_parse.proofs.Suited.{reaches_suits}

-- ---- the reader where some source begins so

good_words : (ws : List Word) (sc : ScopeView) (st : StatementState) (y : Pair) → GoodIn Any sc
    → read_words sc st ws ≡ Ok y → GoodIn Any y.0
good_words [] sc st y good h = let e : (sc, st) ≡ y = cc in subst (λ (x : Pair). GoodIn Any x.0) e good
good_words (w ∷ ws) sc st y good h =
    let z = bind_ok (placed (fault_line sc st w.line) (next_word sc st w)) (λ z. read_words z.0 z.1 ws) y h in
    let n = any_next sc st w z.0 good (placed_goes (fault_line sc st w.line) (next_word sc st w) z.0 z.1) in
    good_words ws z.0.0 z.0.1 y n.scope z.2

record Begins (ws : List Word) : Type 0 where
  fin : Pair
  runs : read_words fresh state.Start ws ≡ Ok fin
  alive : doom fin.0 fin.1 ≡ None

begins : (ws : List Word) → IsBeginning ws → Begins ws
begins ws (more, sc, statements) =
    let two = prefix_runs ws more fresh state.Start (sc, state.Start) (statements_run statements) in
    record { fin = two.0; runs = two.1; alive = lives two.0 two.1 two.2 (doom two.0.0 two.0.1) refl }
  where
    lives : (x : Pair) → read_words fresh state.Start ws ≡ Ok x → read_words x.0 x.1 more ≡ Ok (sc, state.Start) → (d : Option ℕ)
        → doom x.0 x.1 ≡ d → doom x.0 x.1 ≡ None
    lives x runs rest None e = e
    lives x runs rest (Some l) e =
        absurd (words_doomed more x.0 x.1 l (sc, state.Start) (good_words ws fresh state.Start x (fresh_good Any) runs) e rest refl)

-- ---- the first word that is refused

snoc_runs : (ws : List Word) (w : Word) (x z : Pair) → read_words fresh state.Start ws ≡ Ok x → next_word x.0 x.1 w ≡ Ok z
    → read_words fresh state.Start (ws ++ w ∷ []) ≡ Ok z
snoc_runs ws w x z runs next = words_append ws (w ∷ []) fresh state.Start x runs
    ∙ ap (λ (r : Answer). placed (fault_line x.0 x.1 w.line) r >>= λ y. read_words y.0 y.1 []) next

abbrev Stopped : Pair → Word → Type 0
Stopped x w = ((c : SourceCause) × (next_word x.0 x.1 w ≡ Err c)) ⊎ ((z : Pair) × Doomed x.0 x.1 w z)

stopped_word : (ws : List Word) (w : Word) (x : Pair) → AreNamed (ws ++ w ∷ []) → read_words fresh state.Start ws ≡ Ok x
    → IsNoBeginning (ws ++ w ∷ []) → Stopped x w
stopped_word ws w x named runs never = by_result (next_word x.0 x.1 w) refl
  where
    by_doom : (z : Pair) → next_word x.0 x.1 w ≡ Ok z → (d : Option ℕ) → doom z.0 z.1 ≡ d → Stopped x w
    by_doom z next None e = let b = beginning (ws ++ w ∷ []) z.0 z.1 named (snoc_runs ws w x z runs next) e in absurd (never b.0 b.1 b.2)
    by_doom z next (Some l) e = inr (z, doomed_word x.0 x.1 w z l next e)

    by_result : (r : Answer) → next_word x.0 x.1 w ≡ r → Stopped x w
    by_result (Err c) next = inl (c, next)
    by_result (Ok z) next = by_doom z next (doom z.0 z.1) refl

-- two places that the reader's state suits give one cause
module _ (x : Pair) (w : Word) (rest : List Terminal) (sc sc2 : ScopeView) (p p2 : StatementPlace) (one : Suits sc p x.0 x.1)
    (two : Suits sc2 p2 x.0 x.1) where
  by_doomed : (z : Pair) → Doomed x.0 x.1 w z → refused_cause sc p (terminal_of w.kind w.bytes) rest ≡ refused_cause sc2 p2
      (terminal_of w.kind w.bytes) rest
  by_doomed z (Doomed.name n start name k) =
      let a = one.first start in
      let b = two.first start in
      ap (λ (q : StatementPlace). refused_cause sc q (terminal_of w.kind w.bytes) rest) a.1
      ∙ (ap (λ (s : ScopeView). refused_cause s StatementPlace.first (terminal_of w.kind w.bytes) rest) (a.0 ∙ sym b.0)
      ∙ ap (λ (q : StatementPlace). refused_cause sc2 q (terminal_of w.kind w.bytes) rest) (sym b.1))
  by_doomed z (Doomed.astray c percent fails is k) =
      ap (λ (s : Terminal). refused_cause sc p s rest) percent
      ∙ (one.percent w.line rest c fails ∙ sym (two.percent w.line rest c fails)
      ∙ ap (λ (s : Terminal). refused_cause sc2 p2 s rest) (sym percent))

  one_word_cause : Stopped x w → refused_cause sc p (terminal_of w.kind w.bytes) rest ≡ refused_cause sc2 p2
      (terminal_of w.kind w.bytes) rest
  one_word_cause (inl (c, next)) =
      let fails = word_fails x.0 x.1 w c next in
      one.cause w.line (terminal_of w.kind w.bytes) rest c fails ∙ sym (two.cause w.line (terminal_of w.kind w.bytes) rest c fails)
  one_word_cause (inr (z, d)) = by_doomed z d

-- ---- one place in the words

-- where both lists of words begin sources and both are refused with the next word, they are the same
record Same (ws : List Word) (w : Word) (rest vs : List Word) (v : Word) (more : List Word) : Type 0 where
  front : ws ≡ vs
  word : w ≡ v
  back : rest ≡ more

longer_never : (ws : List Word) (w : Word) (x : List Word) → IsNoBeginning (ws ++ w ∷ []) → IsBeginning (ws ++ w ∷ x) → ⊥
longer_never ws w x never (more, sc, statements) =
    never (x ++ more) sc (subst (λ (l : List Word). Statements fresh l sc)
    (append_assoc ws (w ∷ x) more ∙ sym (append_assoc ws (w ∷ []) (x ++ more))) statements)

cons_same : (w v : Word) (xs ys : List Word) → w ∷ xs ≡ v ∷ ys → (w ≡ v) × (xs ≡ ys)
cons_same w v xs ys e = (cc, cc)

split_same : (pre ws : List Word) (w : Word) (rest vs : List Word) (v : Word) (more : List Word) → ws ++ w ∷ rest ≡ vs ++ v ∷ more
    → IsNoBeginning ((pre ++ ws) ++ w ∷ []) → IsNoBeginning ((pre ++ vs) ++ v ∷ []) → IsBeginning (pre ++ ws) → IsBeginning (pre ++ vs)
    → Same ws w rest vs v more
split_same pre [] w rest [] v more e n1 n2 b1 b2 = let s = cons_same w v rest more e in record { front = refl; word = s.0; back = s.1 }
split_same pre [] w rest (u ∷ vs) v more e n1 n2 b1 b2 =
    let s = cons_same w u rest (vs ++ v ∷ more) e in
    let b : IsBeginning (pre ++ w ∷ vs) = subst (λ (y : Word). IsBeginning (pre ++ y ∷ vs)) (sym s.0) b2 in
    absurd (longer_never pre w vs (subst (λ (l : List Word). IsNoBeginning (l ++ w ∷ [])) (append-nil pre) n1) b)
split_same pre (u ∷ ws) w rest [] v more e n1 n2 b1 b2 =
    let s = cons_same u v (ws ++ w ∷ rest) more e in
    let b : IsBeginning (pre ++ v ∷ ws) = subst (λ (y : Word). IsBeginning (pre ++ y ∷ ws)) s.0 b1 in
    absurd (longer_never pre v ws (subst (λ (l : List Word). IsNoBeginning (l ++ v ∷ [])) (append-nil pre) n2) b)
split_same pre (u ∷ ws) w rest (t ∷ vs) v more e n1 n2 b1 b2 =
    let s = cons_same u t (ws ++ w ∷ rest) (vs ++ v ∷ more) e in
    let into : (xs : List Word) → pre ++ u ∷ xs ≡ (pre ++ u ∷ []) ++ xs = λ xs. sym (append_assoc pre (u ∷ []) xs) in
    let other : (xs : List Word) → pre ++ t ∷ xs ≡ (pre ++ u ∷ []) ++ xs = λ xs. ap (λ (y : Word). pre ++ y ∷ xs) (sym s.0) ∙ into xs in
    let r = split_same (pre ++ u ∷ []) ws w rest vs v more s.1
    (subst (λ (l : List Word). IsNoBeginning (l ++ w ∷ [])) (into ws) n1)
    (subst (λ (l : List Word). IsNoBeginning (l ++ v ∷ [])) (other vs) n2)
    (subst IsBeginning (into ws) b1) (subst IsBeginning (other vs) b2) in
    record { front = ap (λ (y : Word). y ∷ ws) s.0 ∙ ap (λ (l : List Word). t ∷ l) r.front; word = r.word; back = r.back }

-- ---- one line and one cause

abbrev pub OneFault : ℕ → SourceCause → ℕ → SourceCause → Type 0
OneFault l c k d = (l ≡ k) × (c ≡ d)

whole_never : (ws : List Word) (w : Word) (rest : List Word) → IsNoBeginning (ws ++ w ∷ []) → IsBeginning (ws ++ w ∷ rest) → ⊥
whole_never ws w rest never b = longer_never ws w rest never b

broken_same : (l k : ℕ) (c d : SourceCause) → Ending.broken l c ≡ Ending.broken k d → (l ≡ k) × (c ≡ d)
broken_same l k c d e = (cc, cc)

comment_same : (l k : ℕ) → Ending.comment l ≡ Ending.comment k → l ≡ k
comment_same l k e = cc

module _ (text : List ℕ) where
  abbrev Words : List Word → Ending → Type 0
  Words ws e = Worded 0 1 (text ++ 10 ∷ []) ws e

  one_text : (ws vs : List Word) (e f : Ending) → Words ws e → Words vs f → (ws ≡ vs) × (e ≡ f)
  one_text ws vs e f p q = one_wording (text ++ 10 ∷ []) 0 1 ws vs e f [] refl p q

  named_split : (ws : List Word) (w : Word) (rest : List Word) (e : Ending) → Words (ws ++ w ∷ rest) e → AreNamed (ws ++ w ∷ [])
  named_split ws w rest e p = named_front (ws ++ w ∷ []) rest (subst AreNamed (sym (append_assoc ws (w ∷ []) rest)) (worded_named p))

  two_words : {sc sc2 : ScopeView} {p p2 : StatementPlace} {e f : Ending} (ws rest : List Word) (w : Word) (vs more : List Word) (v : Word)
      → Words (ws ++ w ∷ rest) e → IsBeginning ws → IsNoBeginning (ws ++ w ∷ []) → Reaches ws sc p
      → Words (vs ++ v ∷ more) f → IsBeginning vs → IsNoBeginning (vs ++ v ∷ []) → Reaches vs sc2 p2
      → OneFault w.line (refused_cause sc p (terminal_of w.kind w.bytes) (terminals rest)) v.line
      (refused_cause sc2 p2 (terminal_of v.kind v.bytes) (terminals more))
  two_words {sc} {sc2} {p} {p2} {e} {f} ws rest w vs more v words b never r words2 b2 never2 r2 =
      let all = one_text (ws ++ w ∷ rest) (vs ++ v ∷ more) e f words words2 in
      let same = split_same [] ws w rest vs v more all.0 never never2 b b2 in
      let x = begins ws b in
      let r3 : Reaches ws sc2 p2 = subst (λ (l : List Word). Reaches l sc2 p2) (sym same.front) r2 in
      let causes = one_word_cause x.fin w (terminals rest) sc sc2 p p2 (reaches_suits ws sc p x.fin r x.runs x.alive)
      (reaches_suits ws sc2 p2 x.fin r3 x.runs x.alive)
      (stopped_word ws w x.fin (named_split ws w rest e words) x.runs never) in (
        ap (λ (y : Word). y.line) same.word,
        causes ∙ (ap (λ (y : Word). refused_cause sc2 p2 (terminal_of y.kind y.bytes) (terminals rest)) same.word
            ∙ ap (λ (l : List Word). refused_cause sc2 p2 (terminal_of v.kind v.bytes) (terminals l)) same.back),
      )

  word_whole : {e f : Ending} (ws rest : List Word) (w : Word) (vs : List Word) → Words (ws ++ w ∷ rest) e → IsNoBeginning (ws ++ w ∷ [])
      → Words vs f → IsBeginning vs → ⊥
  word_whole {e} {f} ws rest w vs words never words2 b =
      longer_never ws w rest never (subst IsBeginning (sym (one_text (ws ++ w ∷ rest) vs e f words words2).0) b)

  two_bytes : {sc sc2 : ScopeView} {p p2 : StatementPlace} {l k : ℕ} {c d : SourceCause} (ws vs : List Word) → Words ws (Ending.broken l c)
      → IsBeginning ws → Reaches ws sc p → Words vs (Ending.broken k d) → Reaches vs sc2 p2
      → OneFault l (byte_cause sc p c) k (byte_cause sc2 p2 d)
  two_bytes {sc} {sc2} {p} {p2} {l} {k} {c} {d} ws vs words b r words2 r2 =
      let all = one_text ws vs (Ending.broken l c) (Ending.broken k d) words words2 in
      let same = broken_same l k c d all.1 in
      let x = begins ws b in
      let one = reaches_suits ws sc p x.fin r x.runs x.alive in
      let two = reaches_suits ws sc2 p2 x.fin (subst (λ (y : List Word). Reaches y sc2 p2) (sym all.0) r2) x.runs x.alive in
      (same.0, sym (one.byte c) ∙ (two.byte c ∙ ap (byte_cause sc2 p2) same.1))

  pub one_fault : {l k : ℕ} {c d : SourceCause} → Refused text l c → Refused text k d → OneFault l c k d
  one_fault (Refused.word ws rest w words b never r) (Refused.word vs more v words2 b2 never2 r2) =
      two_words ws rest w vs more v words b never r words2 b2 never2 r2
  one_fault (Refused.word ws rest w words b never r) (Refused.byte vs words2 b2 r2) = absurd (word_whole ws rest w vs words never words2 b2)
  one_fault (Refused.word ws rest w words b never r) (Refused.comment vs words2 b2) = absurd (word_whole ws rest w vs words never words2 b2)
  one_fault (Refused.byte ws words b r) (Refused.word vs more v words2 b2 never2 r2) =
      absurd (word_whole vs more v ws words2 never2 words b)
  one_fault (Refused.byte ws words b r) (Refused.byte vs words2 b2 r2) = two_bytes ws vs words b r words2 r2
  one_fault (Refused.byte {line} {c} ws words b r) (Refused.comment {line = k} vs words2 b2) =
      absurd (let e : Ending.broken line c ≡ Ending.comment k = (one_text ws vs (Ending.broken line c) (Ending.comment k) words words2).1 in
      cc)
  one_fault (Refused.comment ws words b) (Refused.word vs more v words2 b2 never2 r2) =
      absurd (word_whole vs more v ws words2 never2 words b)
  one_fault (Refused.comment {line} ws words b) (Refused.byte {line = k} {c = d} vs words2 b2 r2) =
      absurd (let e : Ending.comment line ≡ Ending.broken k d = (one_text ws vs (Ending.comment line) (Ending.broken k d) words words2).1 in
      cc)
  one_fault (Refused.comment {line} ws words b) (Refused.comment {line = k} vs words2 b2) =
      (comment_same line k (one_text ws vs (Ending.comment line) (Ending.comment k) words words2).1, refl)

  -- ---- no reading

  all_begin : (ws : List Word) (sc : ScopeView) → Statements fresh ws sc → IsBeginning ws
  all_begin ws sc statements = ([], sc, subst (λ (l : List Word). Statements fresh l sc) (sym (append-nil ws)) statements)

  pub no_reading : {l : ℕ} {c : SourceCause} → Refused text l c → HasReading text → ⊥
  no_reading (Refused.word ws rest w words b never r) (items, (vs, sc, lexed, statements, said)) =
      word_whole ws rest w vs words never (lexed_worded lexed) (all_begin vs sc statements)
  no_reading (Refused.byte {line} {c} ws words b r) (items, (vs, sc, lexed, statements, said)) =
      let e : Ending.broken line c ≡ Ending.whole =
      (one_text ws vs (Ending.broken line c) Ending.whole words (lexed_worded lexed)).1 in absurd cc
  no_reading (Refused.comment {line} ws words b) (items, (vs, sc, lexed, statements, said)) =
      let e : Ending.comment line ≡ Ending.whole =
      (one_text ws vs (Ending.comment line) Ending.whole words (lexed_worded lexed)).1 in absurd cc

-- ---- of what a function returned

-- Where a text is refused in the grammar's words, what is read so is refused so.
pub parsed_refused_only : (text : List ℕ) (r : Result (List SourceItem) SourceFault) → Parses r (read text) → (l : ℕ) (c : SourceCause)
    → Refused text l c → RefusesAs l c r
parsed_refused_only text (Ok items) h l c refused = absurd (no_reading text refused (h.0.scope.items, read_is text h.0 h.1))
parsed_refused_only text (Err fault.Memory) h l c refused = tt
parsed_refused_only text (Err (fault.At k d)) h l c refused = one_fault text (parsed_refused text (Err (fault.At k d)) h) refused
