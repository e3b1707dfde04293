-- Over pages of FF the content is FF through any map, so the map's write, torn or whole, leaves it; the first map is well formed.
use Rattle.std.proofs.Common.{◌≡◌, ◌∙◌, length, subst, arith}
use Rattle.list_laws.specs.Patches.{Torn}
use Rattle.uicc_types.specs.Told.{Becomes}
use Rattle.page_store.specs.Calls.{calls_to_fill}
use Rattle.page_store.proofs.CallsLemmas.{faulted, fill_begun, fill_fault, fill_done}
use Rattle.page_store.proofs.InPageLemmas.{HasLength}
use Rattle.page_store.proofs.BlanksLemmas.{HasOwn, map_torn, map_put, kept_first, first_formed}
use Rattle.page_store.proofs.filling.fill.Goals as goal

pub returns-in_err-prepare-clause-same : goal.returns-in_err-prepare-clause-same
returns-in_err-prepare-clause-same g c =
    let mid = c.fill_pages.new.store in
    let new = c.prepare.new.self in
    let size : g.S.CountedStore.byte_count mid ≡ 71680 = c.in_ok-fill_pages.ensures.keeps.size ∙ c.requires.below.size in
    let size' : g.S.CountedStore.byte_count new ≡ 71680 = c.in_err-prepare.ensures.keeps.size ∙ size in
    let long = subst (λ n. HasLength (g.S.CountedStore.stable mid) n) size (g.met.S.CountedStore.told_length mid) in
    let own : HasOwn (g.S.CountedStore.stable mid) = λ k low high. g.met.S.CountedStore.own_bytes mid k low high (omega arith) in
    let own' : HasOwn (g.S.CountedStore.stable new) = λ k low high. g.met.S.CountedStore.own_bytes new k low high (omega arith) in
    let count : length c.first_map-bytes.result ≡ 2022 = c.first_map-bytes.ensures.long in
    let torn = subst (λ n. Becomes (Torn 832 n) (g.S.CountedStore.stable mid) (g.S.CountedStore.stable new)) count c.in_err-prepare.ensures.writes.torn in
    map_torn (g.S.CountedStore.stable mid) (g.S.CountedStore.stable new) long c.in_ok-fill_pages.ensures.blank own own' torn ∙ c.in_ok-fill_pages.ensures.same

pub unreachable-requires : goal.unreachable-requires
unreachable-requires g c = absurd (let formed = first_formed _ c.first_map-bytes.ensures.first in let none = c.in-None.ensures in cc (formed, none))

pub returns-clause-same : goal.returns-clause-same
returns-clause-same g c =
    let mid = c.fill_pages.new.store in
    let new = c.prepare.new.self in
    let size : g.S.CountedStore.byte_count mid ≡ 71680 = c.in_ok-fill_pages.ensures.keeps.size ∙ c.requires.below.size in
    let size' : g.S.CountedStore.byte_count new ≡ 71680 = c.in_ok-prepare.ensures.keeps.size ∙ size in
    let long = subst (λ n. HasLength (g.S.CountedStore.stable mid) n) size (g.met.S.CountedStore.told_length mid) in
    let own : HasOwn (g.S.CountedStore.stable mid) = λ k low high. g.met.S.CountedStore.own_bytes mid k low high (omega arith) in
    let own' : HasOwn (g.S.CountedStore.stable new) = λ k low high. g.met.S.CountedStore.own_bytes new k low high (omega arith) in
    let count : length c.first_map-bytes.result ≡ 2022 = c.first_map-bytes.ensures.long in
    let put = map_put (g.S.CountedStore.stable mid) (g.S.CountedStore.stable new) c.first_map-bytes.result long count c.in_ok-prepare.ensures.writes.ok in
    map_torn (g.S.CountedStore.stable mid) (g.S.CountedStore.stable new) long c.in_ok-fill_pages.ensures.blank own own' put.0 ∙ c.in_ok-fill_pages.ensures.same

pub returns-clause-kept : goal.returns-clause-kept
returns-clause-kept g c =
    let mid = c.fill_pages.new.store in
    let size : g.S.CountedStore.byte_count mid ≡ 71680 = c.in_ok-fill_pages.ensures.keeps.size ∙ c.requires.below.size in
    let long = subst (λ n. HasLength (g.S.CountedStore.stable mid) n) size (g.met.S.CountedStore.told_length mid) in
    let count : length c.first_map-bytes.result ≡ 2022 = c.first_map-bytes.ensures.long in
    let put = map_put (g.S.CountedStore.stable mid) (g.S.CountedStore.stable c.prepare.new.self) c.first_map-bytes.result long count c.in_ok-prepare.ensures.writes.ok in
    let loads = c.in-Some.ensures in
    kept_first (g.S.CountedStore.stable c.prepare.new.self) c.first_map-bytes.result c.in-Some.table loads.0 loads.1 put.1

pub returns-in_err-fill_pages-clause-calls : goal.returns-in_err-fill_pages-clause-calls
returns-in_err-fill_pages-clause-calls g c =
    faulted calls_to_fill (g.S.CountedStore.meter c.args.store.now).programs (g.S.CountedStore.meter c.fill_pages.new.store).programs c.from_residual.result c.from_residual.ensures.0
    (fill_begun (g.S.CountedStore.meter c.args.store.now).programs (g.S.CountedStore.meter c.fill_pages.new.store).programs c.in_err-fill_pages.ensures.calls.no_more)

pub returns-in_err-prepare-clause-calls : goal.returns-in_err-prepare-clause-calls
returns-in_err-prepare-clause-calls g c =
    faulted calls_to_fill (g.S.CountedStore.meter c.args.store.now).programs (g.S.CountedStore.meter c.prepare.new.self).programs c.from_residual-in_err-prepare.result c.from_residual-in_err-prepare.ensures.0
    (fill_fault _ (g.S.CountedStore.meter c.args.store.now).programs (g.S.CountedStore.meter c.fill_pages.new.store).programs (g.S.CountedStore.meter c.prepare.new.self).programs c.first_map-bytes.ensures.long c.in_ok-fill_pages.ensures.calls.all c.in_err-prepare.ensures.calls.no_more)

pub returns-clause-calls : goal.returns-clause-calls
returns-clause-calls g c = record {
  all = fill_done _ (g.S.CountedStore.meter c.args.store.now).programs (g.S.CountedStore.meter c.fill_pages.new.store).programs (g.S.CountedStore.meter c.prepare.new.self).programs c.first_map-bytes.ensures.long c.in_ok-fill_pages.ensures.calls.all c.in_ok-prepare.ensures.calls.all;
  no_more = tt;
}
