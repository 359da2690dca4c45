use Rattle.wedge_core.proofs.laws.native_laws.Goals as goal

pub returns-clause-text : goal.returns-clause-text
returns-clause-text c = λ image h. record {
  whole = c.fetching.ensures.whole image h;
  whole_patched = c.fetching.ensures.whole_patched image h;
  cut = c.fetching.ensures.cut image h;
  cut_patched = c.fetching.ensures.cut_patched image h;
  instruction = c.places.ensures.instruction image.text;
  room = c.outside_sites.ensures.room image h;
  insensitive = c.outside_sites.ensures.insensitive image h;
  goes_on = c.goes_on.ensures image h;
}
