-- A guest's memory whose text was patched.
use Rattle.std.proofs.Common.{◌≡◌, ℕ, ◌+◌, ◌*◌, ◌≤◌, List, [], ◌∷◌, ◌++◌, length, take, drop, append_assoc, sym, ap, ◌∙◌, arith}
use Rattle.std.proofs.lemmas.List.{append_cancel_right, drop-append-le, length-take-le, take-append-drop, take-take}
use Rattle.guest_ram.specs.Bytes.{part, with_part}
use Rattle.guest_ram.proofs.Bytes.{with_part-with_part, with_part-part, drop-with_part}
use Rattle.sites.specs.declared.site.Site.{Site}
use Rattle.sites.specs.Room.{AreInside}
use Rattle.machine_model.specs.State.{Setting}
use Rattle.native_steps.specs.Mirrors.{shown}
use Rattle.wedge_step.proofs.Memories.{part_front}

-- sites of a text that stands in a memory
pub inside_moved : (len new at : ℕ) (sites : List Site) → at + len ≤ new → AreInside len 0 sites → AreInside new at sites
inside_moved len new at [] le h = tt
inside_moved len new at (s ∷ sites) le h = let fits = h.1 in (h.0, omega (arith, fits, le), inside_moved len new at sites le h.2)

take_with : (m : List ℕ) (a : ℕ) (bs : List ℕ) (k : ℕ) → a + length bs ≤ k → k ≤ length m
    → take k (with_part m a bs) ≡ with_part (take k m) a bs
unfolding with_part
take_with m a bs k le fits =
    let n = a + length bs in
    let x = take a (take k m) in
    let y = drop n (take k m) in
    let z = drop k m in
    let whole = with_part m a bs in
    let long = length-take-le k m fits in
    let rest : y ++ z ≡ drop n m =
    sym (drop-append-le n (take k m) z (omega (arith, long, le))) ∙ ap (λ (l : List ℕ). drop n l) (take-append-drop k m) in
    let joined : (x ++ (bs ++ y)) ++ z ≡ whole =
    append_assoc x (bs ++ y) z
    ∙ (ap (λ (l : List ℕ). x ++ l) (append_assoc bs y z)
    ∙ (ap (λ (l : List ℕ). x ++ (bs ++ l)) rest ∙ ap (λ (l : List ℕ). l ++ (bs ++ drop n m)) (take-take a k m (omega (arith, le))))) in
    append_cancel_right (take k whole) (x ++ (bs ++ y)) z
    (ap (λ (l : List ℕ). take k whole ++ l) (sym (drop-with_part m a bs k le (omega (arith, le, fits))))
    ∙ (take-append-drop k whole ∙ sym joined))

-- with the text laid over it, it is as it was
pub unpatched : (m : Setting) (ram patches : List ℕ) → length patches ≡ length m.image.text → 0x100000
    + length m.image.text ≤ 4096 * m.frames → 4096 * m.frames ≤ length ram
    → part ram 0x100000 (length m.image.text) ≡ m.image.text → shown m (with_part ram 0x100000 patches) ≡ take (4096 * m.frames) ram
unfolding shown
unpatched m ram patches same room fits text =
    let n = 4096 * m.frames in
    let x = take n ram in
    let long : length x ≡ n = length-take-le n ram fits in
    let there : part x 0x100000 (length m.image.text) ≡ m.image.text = part_front ram n 0x100000 (length m.image.text) room ∙ text in
    ap (λ (l : List ℕ). with_part l 0x100000 m.image.text) (take_with ram 0x100000 patches n (omega (arith, same, room)) fits)
    ∙ (with_part-with_part x 0x100000 patches m.image.text (omega (arith, same, room, long)) same
    ∙ (ap (with_part x 0x100000) (sym there) ∙ with_part-part x 0x100000 (length m.image.text) (omega (arith, room, long))))
