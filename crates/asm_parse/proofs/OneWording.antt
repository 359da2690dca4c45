-- A text has one list of words, and one thing that ends them.
use Rattle.std.proofs.Common.{◌≡◌, ℕ, ◌+◌, Bool, true, false, List, [], ◌∷◌, ◌++◌, length, refl, sym, ap, ◌∙◌}
use Rattle.asm_lex.specs.declared.bytes.Class.TheVariants as class
use Rattle.asm_lex.specs.declared.fault.SourceCause.{SourceCause}
use Rattle.asm_lex.specs.declared.machine.Mode.{Mode}
use Rattle.asm_lex.specs.declared.machine.Mode.TheVariants as mode
use Rattle.asm_lex.specs.declared.machine.Next.{Next}
use Rattle.asm_lex.specs.declared.machine.Next.TheVariants.{Goes, Stops}
use Rattle.asm_lex.specs.Words.{Word, line_after}
use Rattle.asm_lex.specs.Scans.{Scan, scan}
use Rattle.asm_lex.specs.Source.{lines_after}
use Rattle.asm_lex.proofs.Again.{skip_gap, over_token, comment_mode, class_line, with_word}
use Rattle.asm_parse.specs.Refusals.{Ending, Worded}
use Rattle.asm_lex.proofs.Breaking.{comment_empty, comment_leaves, wrong_breaks, seen_more}

-- ---- how a scan ends, by what ends the words

abbrev Leaves : Ending → Next → Type 0
Leaves Ending.whole n = n ≡ Goes mode.Between
Leaves (Ending.broken l c) n = n ≡ Stops l c
Leaves (Ending.comment l) n = (star : Bool) × (n ≡ Goes (comment_mode star l))

abbrev goes : Mode → Next
goes m = Goes m

abbrev stops : ℕ → SourceCause → Next
stops l c = Stops l c

comment_mode_line : (s t : Bool) (l k : ℕ) → goes (comment_mode s l) ≡ goes (comment_mode t k) → l ≡ k
comment_mode_line true true l k e = cc
comment_mode_line true false l k e = absurd cc
comment_mode_line false true l k e = absurd cc
comment_mode_line false false l k e = cc

between_comment : (s : Bool) (l : ℕ) → goes mode.Between ≡ goes (comment_mode s l) → ⊥
between_comment true l e = cc
between_comment false l e = cc

stops_comment : (s : Bool) (l k : ℕ) (c : SourceCause) → stops k c ≡ goes (comment_mode s l) → ⊥
stops_comment true l k c e = cc
stops_comment false l k c e = cc

stops_same : (l k : ℕ) (c d : SourceCause) → stops l c ≡ stops k d → Ending.broken l c ≡ Ending.broken k d
stops_same l k c d e = let line : l ≡ k = cc in let same : c ≡ d =
    cc in ap (λ (x : ℕ). Ending.broken x c) line ∙ ap (λ (x : SourceCause). Ending.broken k x) same

one_ending : (e f : Ending) (n : Next) → Leaves e n → Leaves f n → e ≡ f
one_ending Ending.whole Ending.whole n p q = refl
one_ending Ending.whole (Ending.broken k d) n p q = absurd (let g : goes mode.Between ≡ stops k d = sym p ∙ q in cc)
one_ending Ending.whole (Ending.comment k) n p q = absurd (between_comment q.0 k (sym p ∙ q.1))
one_ending (Ending.broken l c) Ending.whole n p q = absurd (let g : stops l c ≡ goes mode.Between = sym p ∙ q in cc)
one_ending (Ending.broken l c) (Ending.broken k d) n p q = stops_same l k c d (sym p ∙ q)
one_ending (Ending.broken l c) (Ending.comment k) n p q = absurd (stops_comment q.0 k l c (sym p ∙ q.1))
one_ending (Ending.comment l) Ending.whole n p q = absurd (between_comment p.0 l (sym q ∙ p.1))
one_ending (Ending.comment l) (Ending.broken k d) n p q = absurd (stops_comment p.0 l k d (sym q ∙ p.1))
one_ending (Ending.comment l) (Ending.comment k) n p q = ap (λ (x : ℕ). Ending.comment x) (comment_mode_line p.0 q.0 l k (sym p.1 ∙ q.1))

-- ---- the words are those of the scan

record Scanned (s : Scan) (ws : List Word) (e : Ending) : Type 0 where
  words : s.words ≡ ws
  ends : Leaves e s.ending

scanned_at : (s t : Scan) (ws : List Word) (e : Ending) → s ≡ t → Scanned t ws e → Scanned s ws e
scanned_at s t ws e same h =
    record { words = ap (λ (x : Scan). x.words) same ∙ h.words; ends = leaves e (ap (λ (x : Scan). x.ending) same) h.ends }
  where
    leaves : (e : Ending) → s.ending ≡ t.ending → Leaves e t.ending → Leaves e s.ending
    leaves Ending.whole f g = f ∙ g
    leaves (Ending.broken l c) f g = f ∙ g
    leaves (Ending.comment l) f g = (g.0, f ∙ g.1)

scanned : {at line : ℕ} {text : List ℕ} {ws : List Word} {e : Ending} → Worded at line text ws e → (seen : List ℕ) → length seen ≡ at
    → Scanned (scan mode.Between seen at line text) ws e
scanned Worded.none seen same = record { words = refl; ends = refl }
scanned {at} {line} {text} {ws} {e} (Worded.gap piece rest is g more) seen same =
    scanned_at (scan mode.Between seen at line text) (scan mode.Between (seen ++ piece) (at + length piece) (lines_after line piece) rest)
    ws e
    (ap (scan mode.Between seen at line) is ∙ skip_gap piece rest g seen at line)
    (scanned more (seen ++ piece) (seen_more seen piece at same))
scanned {at} {line} {text} {e} (Worded.token {ws} k piece rest is t more) seen same =
    let h = scanned more (seen ++ piece) (seen_more seen piece at same) in
    scanned_at (scan mode.Between seen at line text)
    (with_word (record { kind = k; at = at; line = line; bytes = piece })
    (scan mode.Between (seen ++ piece) (at + length piece) (lines_after line piece) rest))
    (record { kind = k; at = at; line = line; bytes = piece } ∷ ws) e
    (ap (scan mode.Between seen at line) is ∙ over_token k piece rest t seen at line same)
    (record { words = ap (λ (x : List Word). record { kind = k; at = at; line = line; bytes = piece } ∷ x) h.words; ends = h.ends })
scanned {at} {line} {text} (Worded.broken {next} {c} piece rest is wrong) seen same =
    scanned_at (scan mode.Between seen at line text) (record { words = []; ending = Stops (lines_after line piece) c }) []
    (Ending.broken (lines_after line piece) c)
    (ap (scan mode.Between seen at line) is ∙ wrong_breaks piece rest next c wrong seen at line)
    (record { words = refl; ends = refl })
scanned {at} {line} (Worded.comment {b} {d} {bs} k e u) seen same =
    let stays : line_after line b ≡ line = class_line b line class.Slash k (λ x. cc) in
    scanned_at (scan mode.Between seen at line (b ∷ d ∷ bs))
    (scan (mode.Block line) ((seen ++ b ∷ []) ++ d ∷ []) (at + 1 + 1) (line_after (line_after line b) d) bs) [] (Ending.comment line)
    (rw (k, e, stays) refl)
    (record {
      words = comment_empty bs false ((seen ++ b ∷ []) ++ d ∷ []) (at + 1 + 1) (line_after (line_after line b) d) line u;
      ends = comment_leaves bs false ((seen ++ b ∷ []) ++ d ∷ []) (at + 1 + 1) (line_after (line_after line b) d) line u;
    })

pub one_wording : (text : List ℕ) (at line : ℕ) (ws vs : List Word) (e f : Ending) (seen : List ℕ) → length seen ≡ at
    → Worded at line text ws e → Worded at line text vs f → (ws ≡ vs) × (e ≡ f)
one_wording text at line ws vs e f seen same p q =
    let a = scanned p seen same in
    let b = scanned q seen same in
    (sym a.words ∙ b.words, one_ending e f (scan mode.Between seen at line text).ending a.ends b.ends)
