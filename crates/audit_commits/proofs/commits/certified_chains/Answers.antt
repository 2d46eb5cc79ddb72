use Rattle.std.proofs.Common.{◌≡◌, ◌∙◌, ap}
use Rattle.blocks.specs.Genesis.{genesis_of}
use Rattle.audit_commits.proofs.CommitFacts.{certified_in, genesis_alone_in, index_of}
use Rattle.audit_commits.proofs.commits.certified_chains.Goals as goal

pub build-requires-clause-alone : goal.build-requires-clause-alone
build-requires-clause-alone c =
    let e = c.args.evidence.now in
    let hs = c.in_ok-certified.certified.items in
    let genesis : c.of-genesis.result ≡ genesis_of e.committee = c.of-genesis.ensures ∙ c.genesis.ensures.value ∙ ap genesis_of c.committee.ensures.value in
    genesis_alone_in e hs c.deref.result.now c.of-genesis.result c.committee.ensures.is_evidence (certified_in e hs c.in_ok-certified.ensures) c.deref.ensures.value genesis

pub returns-clause-chains : goal.returns-clause-chains
returns-clause-chains c =
    let e = c.args.evidence.now in
    let hs = c.in_ok-certified.certified.items in
    let genesis : c.of-genesis.result ≡ genesis_of e.committee = c.of-genesis.ensures ∙ c.genesis.ensures.value ∙ ap genesis_of c.committee.ensures.value in
    index_of e hs c.deref.result.now c.of-genesis.result c.in_ok-chains.chains c.in_ok-certified.ensures c.deref.ensures.value genesis c.in_ok-chains.ensures.ok
