-- A text that is read line by line says what its lines say.
use Rattle.std.proofs.Common.{◌≡◌, ℕ, ◌+◌, ◌<◌, ◌≤◌, List, [], ◌∷◌, ◌++◌, length, take, drop, get_or, Option, Some, None, Result, Ok, Err, refl, sym, ap, subst, ◌∙◌, arith, add-one, drop-cons, length-drop, below_more}
use Rattle.std.proofs.lemmas.Grind.{flat_map-append}
use Rattle.std.proofs.lemmas.List.{append-nil, take_all, take_more}
use Rattle.text_lines.specs.declared.lines.LineFault.{LineFault}
use Rattle.text_lines.specs.declared.lines.LineFault.TheVariants.{At, Memory}
use Rattle.text_lines.specs.Cuts.{cut_at}
use Rattle.text_lines.specs.Lines.{Rule, said, items_on, badness, badness_of, AreGood, LinesSay, unless, lines_read, text_read}
use Rattle.text_lines.specs.Answers.{FaultAs, IsRefused}

module _ {A C : Type 0} (rule : Rule A C) where
  -- what one line more says
  items_more : (lines : List (List ℕ)) (i : ℕ) → i < length lines →
      items_on rule (take (i + 1) lines) ≡ items_on rule (take i lines) ++ said (rule.says (get_or lines i []))
  items_more lines i within =
      let on : List ℕ → List A = λ line. said (rule.says line) in
      ap (items_on rule) (take_more lines i [] within)
      ∙ flat_map-append on (take i lines) (get_or lines i [] ∷ [])
      ∙ ap (λ (z : List A). items_on rule (take i lines) ++ z) (append-nil (on (get_or lines i [])))

  -- line i, by its badness
  by_badness : (lines : List (List ℕ)) (i : ℕ) (b : Option C) (later : Result (List A) (ℕ × C)) → i < length lines → AreGood rule lines i →
      badness_of rule lines i ≡ b → (AreGood rule lines (i + 1) → LinesSay rule lines later) → LinesSay rule lines (unless b (i + 1) later)
  by_badness lines i None later within good is on = on (below_more (λ k. badness_of rule lines k ≡ None) i good is)
  by_badness lines i (Some cause) later within good is on = (i, refl, within, good, is)

  says : (lines rest : List (List ℕ)) (i : ℕ) → rest ≡ drop i lines → i ≤ length lines → AreGood rule lines i →
      LinesSay rule lines (lines_read rule (i + 1) (items_on rule (take i lines)) rest)
  unfolding lines_read
  says lines [] i is within good =
      let end : i ≡ length lines = omega (arith, ap length is, length-drop i lines) in
      (subst (AreGood rule lines) end good, ap (items_on rule) (take_all i lines (omega arith)))
  says lines (line ∷ rest) i is within good =
      let before : i < length lines = omega (arith, ap length is, length-drop i lines) in
      let split : drop i lines ≡ get_or lines i [] ∷ drop (i + 1) lines = rw add-one (drop-cons lines i [] before) in
      let both : line ∷ rest ≡ get_or lines i [] ∷ drop (i + 1) lines = is ∙ split in
      let here : line ≡ get_or lines i [] = cc in
      let after : rest ≡ drop (i + 1) lines = cc in
      let more : items_on rule (take (i + 1) lines) ≡ items_on rule (take i lines) ++ said (rule.says line) =
      items_more lines i before ∙ ap (λ (l : List ℕ). items_on rule (take i lines) ++ said (rule.says l)) (sym here) in
      by_badness lines i (badness rule (items_on rule (take i lines)) (rule.says line)) _ before good
      (ap (λ (l : List ℕ). badness rule (items_on rule (take i lines)) (rule.says l)) (sym here))
      (λ better. subst (λ (items : List A). LinesSay rule lines (lines_read rule (i + 1 + 1) items rest)) more
      (says lines rest (i + 1) after (omega arith) better))

  pub text_says : (text : List ℕ) → LinesSay rule (cut_at 10 text) (text_read rule text)
  text_says text = says (cut_at 10 text) (cut_at 10 text) 0 refl (omega arith) (λ i less. absurd (omega arith))

  -- a good line
  pub next_line : (n : ℕ) (before items : List A) (line : List ℕ) (rest : List (List ℕ)) → badness rule before (rule.says line) ≡ None →
      items ≡ before ++ said (rule.says line) → lines_read rule n before (line ∷ rest) ≡ lines_read rule (n + 1) items rest
  unfolding lines_read
  next_line n before items line rest good is =
      ap (λ (b : Option C). unless b n (lines_read rule (n + 1) (before ++ said (rule.says line)) rest)) good
      ∙ ap (λ (z : List A). lines_read rule (n + 1) z rest) (sym is)

  -- a bad one
  pub bad_line : (n : ℕ) (before : List A) (line : List ℕ) (rest : List (List ℕ)) (fault : LineFault C) →
      IsRefused n (badness rule before (rule.says line)) fault → FaultAs fault (lines_read rule n before (line ∷ rest))
  unfolding lines_read
  bad_line n before line rest (At m cause) h =
      ap (λ (b : Option C). unless b n (lines_read rule (n + 1) (before ++ said (rule.says line)) rest)) h.1
      ∙ ap (λ (k : ℕ). Err (k, cause)) (sym h.0)
  bad_line n before line rest Memory h = tt

  pub no_line : (n : ℕ) (items : List A) → lines_read rule n items [] ≡ Ok items
  unfolding lines_read
  no_line n items = refl

pub fault_along : {A C : Type 0} (fault : LineFault C) (a b : Result (List A) (ℕ × C)) → a ≡ b → FaultAs fault a → FaultAs fault b
fault_along (At n cause) a b e h = sym e ∙ h
fault_along Memory a b e h = tt
