-- The file of an image that is linked of burnt objects.
use Rattle.std.proofs.Common.{◌≡◌, ℕ, ◌+◌, ◌-◌, ◌<◌, ◌≤◌, List, [], ◌∷◌, length, Result, Ok, refl, sym, ap, subst, ◌∙◌, arith, inl, inr}
use Rattle.ia32_rows.specs.Spells.{AreBytes}
use Rattle.sites.proofs.Formats.{whole}
use Rattle.sites.specs.declared.limits.TheConstants.{TEXT_LIMIT}
use Rattle.elf_form.specs.ObjectParts.{ObjectParts}
use Rattle.elf_form.specs.ImageParts.{ImageParts}
use Rattle.elf_form.specs.Faults.{Fault, ◌>>=◌}
use Rattle.elf_form.specs.Output.{pad}
use Rattle.elf_form.specs.ImageLayout.{init_from, sites_from, names_from, sections_from, image_bytes}
use Rattle.elf_form.specs.Writable.{IsWritableImage, HasLongs}
use Rattle.elf_form.specs.Reading.{image_in}
use Rattle.elf_form.proofs.RoundTrip.{read_again}
use Rattle.elf_form.proofs.Acceptance.{read_as}
use Rattle.elf_link.specs.Linked.{linked_image}
use Rattle.image_check.specs.Image.{Image}
use Rattle.image_check.specs.Checking.{as_form, image_with, image_from, image_of}
use Rattle.image_check.specs.Accepts.{Accepts}
use Rattle.image_check.proofs.Acceptance.{accepted_from}
use Rattle.built_images.specs.Chunks.{Chunk, chunk_sites}
use Rattle.built_images.specs.Built.{IsBuilt, IsAcceptedButForTargets}
use Rattle.built_images.specs.Padded.{ArePadded, AreAlone, AnyChunks}
use Rattle.built_images.specs.Sources.{AreBurnt, AreBurntAlone, IsAcceptedOrForTarget}
use Rattle.built_images.proofs.BuiltImages.{chunks_fit, begins_within, accepted_where, accepted_but}
use Rattle.built_images.proofs.LinkedImages.{linked_sites_size, linked_built, linked_leads}
use Rattle.built_images.proofs.BurntObjects.{burnt_padded}

-- ---- the file is read again

small_enough : (p : ImageParts) → length p.text ≤ TEXT_LIMIT → length p.init + p.bss ≤ 33554432
    → length p.sites ≤ 134217736 → IsWritableImage p
unfolding init_from sites_from names_from sections_from
small_enough p text room sites =
    let a : pad 4096 (4096 + length p.text) < 4096 = omega arith in
    let b : init_from p ≤ 4096 + TEXT_LIMIT + 4096 = omega (arith, a) in
    let c : sites_from p ≤ init_from p + length p.init + 4 = omega arith in
    let d : sections_from p ≤ names_from p + 42 = omega arith in
    record { file = omega (arith, b, c, d); memory = omega arith }

longs : (parts : ImageParts) (cs : List Chunk) → IsBuilt parts cs → HasLongs parts
longs parts cs b =
    let lt = begins_within cs (parts.entry - 0x10000000) b.chunks b.entry in
    let len = ap length b.text in
    let ge = b.entry_in in
    let size = b.size in
    let text = b.text_at in
    let init = b.init_at in
    record { entry = omega (arith, lt, len, ge, size); text_at = omega (arith, text); init_at = omega (arith, init) }

read_back : (parts : ImageParts) (cs : List Chunk) → IsBuilt parts cs → length parts.sites ≤ 134217736
    → length (image_bytes parts) ≤ 33554432 → image_in (image_bytes parts) ≡ Ok parts
read_back parts cs b sites small = read_again parts (small_enough parts b.size b.room sites) (longs parts cs b) small

from_file : (r : Result ImageParts Fault) (parts : ImageParts) → r ≡ Ok parts → (as_form r >>= image_from) ≡ image_from parts
from_file r parts e = ap (λ (x : Result ImageParts Fault). as_form x >>= image_from) e

file_is : (file : List ℕ) (parts : ImageParts) → image_in file ≡ Ok parts → image_of file ≡ image_from parts
unfolding image_of
file_is file parts e = from_file (image_in file) parts e

accepts : (file : List ℕ) (parts : ImageParts) (cs : List Chunk) → IsBuilt parts cs → image_in file ≡ Ok parts
    → image_from parts ≡ Ok (image_with parts (chunk_sites 0 cs)) → Accepts file (image_with parts (chunk_sites 0 cs))
accepts file parts cs b read e = record {
  parts = parts;
  form = read_as file parts read;
  text_at = b.text_at;
  init_at = b.init_at;
  annotated = whole parts.sites (chunk_sites 0 cs) b.annotated;
  image_is = refl;
  accepted = accepted_from parts (image_with parts (chunk_sites 0 cs)) (subst AreBytes (sym b.text) (chunks_fit cs b.chunks)) e;
}

-- ---- objects of sources

any_padded : (os : List ObjectParts) → AreBurnt os → ArePadded AnyChunks os
any_padded [] h = tt
any_padded (o ∷ os) h = let p = burnt_padded o h.0 in ((p.0, p.1, tt), any_padded os h.1)

alone_padded : (os : List ObjectParts) → AreBurntAlone os → ArePadded AreAlone os
alone_padded [] h = tt
alone_padded (o ∷ os) h = let p = burnt_padded o h.0.0 in ((p.0, p.1, p.2 h.0.1), alone_padded os h.1)

all_burnt : (os : List ObjectParts) → AreBurntAlone os → AreBurnt os
all_burnt [] h = tt
all_burnt (o ∷ os) h = (h.0.0, all_burnt os h.1)

by_outcome : (file : List ℕ) (parts : ImageParts) (cs : List Chunk) → IsBuilt parts cs → image_in file ≡ Ok parts
    → IsAcceptedButForTargets parts cs → IsAcceptedOrForTarget file
by_outcome file parts cs b read (inl e) = inl (image_with parts (chunk_sites 0 cs), accepts file parts cs b read e)
by_outcome file parts cs b read (inr e) = inr (e.0, file_is file parts read ∙ e.1)

pub accepted_or_target : (os : List ObjectParts) (parts : ImageParts) → AreBurnt os → linked_image os ≡ Ok parts
    → length (image_bytes parts) ≤ 33554432 → IsAcceptedOrForTarget (image_bytes parts)
accepted_or_target os parts burnt linked small =
    let padded = any_padded os burnt in
    let b = linked_built os parts padded linked in
    let read = read_back parts b.0 b.1 (linked_sites_size os parts padded linked) small in
    by_outcome (image_bytes parts) parts b.0 b.1 read (accepted_but parts b.0 b.1)

pub accepted : (os : List ObjectParts) (parts : ImageParts) → AreBurntAlone os → linked_image os ≡ Ok parts
    → length (image_bytes parts) ≤ 33554432 → (image : Image) × Accepts (image_bytes parts) image
accepted os parts burnt linked small =
    let b = linked_leads os parts (alone_padded os burnt) linked in
    let read = read_back parts b.0 b.1 (linked_sites_size os parts (any_padded os (all_burnt os burnt)) linked) small in
    (image_with parts (chunk_sites 0 b.0), accepts (image_bytes parts) parts b.0 b.1 read (accepted_where parts b.0 b.1 b.2))
