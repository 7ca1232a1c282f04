use Rattle.std.proofs.Common.{◌∙◌}
use Rattle.mac_wire.specs.declared.request.TheConstants.{FACTS_MAX}
use Rattle.mac_words.specs.Payload.{texts_of}
use Rattle.mac_words.specs.declared.fault.FieldFault.TheVariants as fault
use Rattle.mac_words.proofs.ExplainedLemmas.{explained}
use Rattle.mac_words.proofs.PayloadLemmas.{few_facts, list_fits}
use Rattle.mac_words.proofs.explained.explain.Goals as goal

pub returns : goal.returns
returns c =
    let facts = texts_of c.args.facts.now in
    let fits = list_fits FACTS_MAX fault.ManyFacts facts c.in_ok-counted.ensures.0 in
    explained c.args.token.now c.args.moment facts c.explain_counted.result c.in_ok-counted.ensures.0
    (c.explain_counted.ensures facts (c.deref.ensures.value ∙ c.in_ok-counted.ensures.1) (few_facts facts fits.0) fits.1)
