-- `indexes` meets its contract. Assumes nothing.
use Rattle.std.proofs.Common.{rules, Ok, Err, ◌≡◌}
use mathlib.Core.Path.{refl, ap, ◌∙◌}
use Rattle.hns_encoding.proofs.Numbers.{bytes_known}
use Rattle.hns_p2p_rights.specs.Terms.{terms_of}
use Rattle.hns_p2p_indexes.proofs.Storing.{indexes_refused, indexes_only, indexes_short, indexes_read, indexes_fit}
use Rattle.hns_p2p_indexes.proofs.indexes.Goals as goal

pub returns-in_err-list-clause-value : goal.returns-in_err-list-clause-value
returns-in_err-list-clause-value c =
    let a = c.args in
    let refused : c.from_residual.result ≡ Err c.in_err-list.field-0.0 = search rules in
    refused ∙ (indexes_refused (terms_of a.terms.now) a.payload.now (bytes_known _ (λ i. (c.type_inv.payload i).fits)) c.listing.ensures a.out.now c.in_err-list.was).0

pub returns-in_err-list-clause-out_after : goal.returns-in_err-list-clause-out_after
returns-in_err-list-clause-out_after c =
    let a = c.args in
    (indexes_refused (terms_of a.terms.now) a.payload.now (bytes_known _ (λ i. (c.type_inv.payload i).fits)) c.listing.ensures a.out.now c.in_err-list.was).1

pub returns-in_default : goal.returns-in_default
returns-in_default c =
    let a = c.args in
    absurd (indexes_only (terms_of a.terms.now) a.payload.now (bytes_known _ (λ i. (c.type_inv.payload i).fits)) c.listing.ensures c.in_ok-list.was c.in_default.not-Indexes)

pub returns-then-out-count-clause-value : goal.returns-then-out-count-clause-value
returns-then-out-count-clause-value c =
    let a = c.args in
    let g = c.in_ok-list.was ∙ ap Ok c.in-Indexes.is in
    let bs = bytes_known a.payload.now (λ i. (c.type_inv.payload i).fits) in
    (indexes_short (terms_of a.terms.now) a.payload.now bs c.listing.ensures g a.out.now c.if-out-count.true refl).0

pub returns-then-out-count-clause-out_after : goal.returns-then-out-count-clause-out_after
returns-then-out-count-clause-out_after c =
    let a = c.args in
    let g = c.in_ok-list.was ∙ ap Ok c.in-Indexes.is in
    let bs = bytes_known a.payload.now (λ i. (c.type_inv.payload i).fits) in
    (indexes_short (terms_of a.terms.now) a.payload.now bs c.listing.ensures g a.out.now c.if-out-count.true refl).1

pub store-requires : goal.store-requires
store-requires c =
    let a = c.args in
    let g = c.in_ok-list.was ∙ ap Ok c.in-Indexes.is in
    let bs = bytes_known a.payload.now (λ i. (c.type_inv.payload i).fits) in
    (indexes_read (terms_of a.terms.now) a.payload.now bs c.listing.ensures g, c.if-out-count.false)

pub returns-clause-value : goal.returns-clause-value
returns-clause-value c =
    let a = c.args in
    let g = c.in_ok-list.was ∙ ap Ok c.in-Indexes.is in
    let bs = bytes_known a.payload.now (λ i. (c.type_inv.payload i).fits) in
    (indexes_fit (terms_of a.terms.now) a.payload.now bs c.listing.ensures g a.out.now c.if-out-count.false c.store.ensures).0

pub returns-clause-out_after : goal.returns-clause-out_after
returns-clause-out_after c =
    let a = c.args in
    let g = c.in_ok-list.was ∙ ap Ok c.in-Indexes.is in
    let bs = bytes_known a.payload.now (λ i. (c.type_inv.payload i).fits) in
    (indexes_fit (terms_of a.terms.now) a.payload.now bs c.listing.ensures g a.out.now c.if-out-count.false c.store.ensures).1
