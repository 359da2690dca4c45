use Rattle.std.proofs.Common.{◌≡◌, ℕ, List, ◌++◌, take, drop, Some, ap, ◌∙◌}
use Rattle.std.proofs.lemmas.List.{take-append-drop}
use Rattle.pv_io.specs.Sink.{AppendsFront}
use Rattle.trace_check.specs.Matches.{taken_by}
use Rattle.trace_check.proofs.matching.MatchingSink.put.Goals as goal

-- so many of the bytes were taken
front_taken : (old so_far new : List ℕ) (bytes : List ℕ) (i : ℕ) → so_far ≡ old ++ take i bytes → new ≡ so_far
    → AppendsFront (Some old) (Some new) bytes
front_taken old so_far new bytes i is same = record {
  front = take i bytes;
  rest = drop i bytes;
  whole = take-append-drop i bytes;
  taken = ap (λ (l : List ℕ). Some l) (same ∙ is);
}

pub returns-then-is_wrong-clause-failed : goal.returns-then-is_wrong-clause-failed
returns-then-is_wrong-clause-failed c = front_taken (taken_by c.args.self.now) (taken_by c.loop-b.self) (taken_by c.fail.new.self)
    c.args.bytes.now c.loop-b.b-index c.loop-b.invariant.taken c.fail.ensures.taken

pub returns-then-is_wrong-2-clause-failed : goal.returns-then-is_wrong-2-clause-failed
returns-then-is_wrong-2-clause-failed c = front_taken (taken_by c.args.self.now) (taken_by c.loop-b.self)
    (taken_by c.fail-then-is_wrong-2.new.self) c.args.bytes.now c.loop-b.b-index c.loop-b.invariant.taken
    c.fail-then-is_wrong-2.ensures.taken
