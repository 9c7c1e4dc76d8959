use Rattle.std.proofs.Common.{◌≡◌, ◌<◌, length, All, subst, sym, ap, ◌∙◌, arith}
use Rattle.std.proofs.lemmas.Grind.{common_steps}
use Rattle.reo_automata.specs.Template.{automaton_of, IsTemplate}
use Rattle.reo_product.specs.RegionWeb.{IsRegionWeb}
use Rattle.reo_product.specs.Places.{AreNamesOf, AreCells, ArePaired, IsPlacedTemplate, IsKnownTemplate}
use Rattle.reo_product.proofs.PlaceLemmas.{paired_length}
use Rattle.reo_product.proofs.WebLemmas.{templates_known, few_names, few_numbers, region_web, web_is_web}
use Rattle.reo_product.proofs.web.web_of.Goals as goal

pub place_templates-requires-clause-few : goal.place_templates-requires-clause-few
place_templates-requires-clause-few c =
    let templates = c.in_ok-templates.templates.items in
    let names = c.in_ok-names.names.items in
    let are = subst (λ ts. AreNamesOf ts names) c.deref.ensures.value c.in_ok-names.ensures in
    let few = few_names c.args.net.now c.requires.checked c.args.automata.now templates c.in_ok-templates.ensures names are in
    let at = ap length c.deref-2.ensures.value in
    omega arith

pub place_templates-requires-clause-known : goal.place_templates-requires-clause-known
place_templates-requires-clause-known c =
    let templates = c.in_ok-templates.templates.items in
    let names = c.in_ok-names.names.items in
    let are = subst (λ ts. AreNamesOf ts names) c.deref.ensures.value c.in_ok-names.ensures in
    let known = templates_known c.args.net.now c.args.automata.now templates c.in_ok-templates.ensures names are in
    subst (λ ns. All (IsKnownTemplate ns) templates) (sym c.deref-2.ensures.value) known

pub cells_of-requires-clause-few : goal.cells_of-requires-clause-few
cells_of-requires-clause-few c =
    let templates = c.in_ok-templates.templates.items in
    let names = c.in_ok-names.names.items in
    let are = subst (λ ts. AreNamesOf ts names) c.deref.ensures.value c.in_ok-names.ensures in
    let few = few_names c.args.net.now c.requires.checked c.args.automata.now templates c.in_ok-templates.ensures names are in
    let at = ap length c.deref-3.ensures.value in
    omega arith

pub overflow_cast-count : goal.overflow_cast-count
overflow_cast-count c =
    let templates = c.in_ok-templates.templates.items in
    let names = c.in_ok-names.names.items in
    let are = subst (λ ts. AreNamesOf ts names) c.deref.ensures.value c.in_ok-names.ensures in
    let few = few_names c.args.net.now c.requires.checked c.args.automata.now templates c.in_ok-templates.ensures names are in
    let long : c.len-count.result ≡ length names = grind (arith, common_steps, c.len-count.ensures) in
    omega arith

pub returns-clause-web : goal.returns-clause-web
returns-clause-web c = λ root region.
    let net = c.args.net.now in
    let templates = c.in_ok-templates.templates.items in
    let names = c.in_ok-names.names.items in
    let are = subst (λ ts. AreNamesOf ts names) c.deref.ensures.value c.in_ok-names.ensures in
    let placed = subst (λ ns. ArePaired (IsPlacedTemplate ns) templates c.in_ok-automata.automata) c.deref-2.ensures.value c.in_ok-automata.ensures in
    let cells = subst (λ ns. AreCells net ns (length net.channels) c.in_ok-cells.cells) c.deref-3.ensures.value c.in_ok-cells.ensures in
    let long : c.len-count.result ≡ length names = grind (arith, common_steps, c.len-count.ensures) in
    subst (λ ns. IsRegionWeb net root ns (record { automata = c.in_ok-automata.automata; cells = c.in_ok-cells.cells; names = c.len-count.result })) (sym c.from_vec.ensures)
    (region_web net root c.args.automata.now templates names c.in_ok-automata.automata c.in_ok-cells.cells c.len-count.result region c.in_ok-templates.ensures are placed cells long)

pub returns-clause-few : goal.returns-clause-few
returns-clause-few c = λ rising.
    let net = c.args.net.now in
    let templates = c.in_ok-templates.templates.items in
    let names = c.in_ok-names.names.items in
    let are = subst (λ ts. AreNamesOf ts names) c.deref.ensures.value c.in_ok-names.ensures in
    let few = few_names net c.requires.checked c.args.automata.now templates c.in_ok-templates.ensures names are in
    let long : c.len-count.result ≡ length names = grind (arith, common_steps, c.len-count.ensures) in
    let numbers = few_numbers net c.requires.checked c.args.automata.now rising c.requires.below in
    let placed = paired_length (IsPlacedTemplate c.deref-2.result.now) templates c.in_ok-automata.automata c.in_ok-automata.ensures in
    let made = paired_length (λ x. IsTemplate net (automaton_of net x)) c.args.automata.now templates c.in_ok-templates.ensures in
    let count : length c.in_ok-automata.automata < 67108864 = omega arith in
    let size : c.len-count.result < 67108864 = omega arith in
    (count, size)

pub returns-clause-is_web : goal.returns-clause-is_web
returns-clause-is_web c =
    let net = c.args.net.now in
    let templates = c.in_ok-templates.templates.items in
    let names = c.in_ok-names.names.items in
    let are = subst (λ ts. AreNamesOf ts names) c.deref.ensures.value c.in_ok-names.ensures in
    let placed = subst (λ ns. ArePaired (IsPlacedTemplate ns) templates c.in_ok-automata.automata) c.deref-2.ensures.value c.in_ok-automata.ensures in
    let cells = subst (λ ns. AreCells net ns (length net.channels) c.in_ok-cells.cells) c.deref-3.ensures.value c.in_ok-cells.ensures in
    let long : c.len-count.result ≡ length names = grind (arith, common_steps, c.len-count.ensures) in
    web_is_web net c.args.automata.now templates names c.in_ok-automata.automata c.in_ok-cells.cells c.len-count.result c.in_ok-templates.ensures are placed cells long

pub returns-clause-named : goal.returns-clause-named
returns-clause-named c =
    let long : c.len-count.result ≡ length c.in_ok-names.names.items = grind (arith, common_steps, c.len-count.ensures) in
    long ∙ ap length (sym c.from_vec.ensures)
