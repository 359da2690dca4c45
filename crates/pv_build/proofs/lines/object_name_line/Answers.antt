use Rattle.std.proofs.Common.{List, ℕ, [], ◌∷◌, ◌++◌, ap, ◌∙◌, append_assoc}
use Rattle.pv_build.proofs.lines.object_name_line.Goals as goal

pub returns : goal.returns
returns c =
    let text = ap (λ v. v.items) c.into_bytes-bytes.ensures.value ∙ c.in_ok-line.ensures.ok in
    let named = c.in_ok-extend_from_slice.ensures.items ∙ ap (λ (l : List ℕ). l ++ c.args.name.now) text in
    c.in_ok-push.ensures.items ∙ (ap (λ (l : List ℕ). l ++ 10 ∷ []) named ∙ simp append_assoc)
