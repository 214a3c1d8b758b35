use Rattle.mount_core.proofs.Listings.{fails_listing, listing_begun}
use Rattle.mount_core.proofs.work.Work.fail_listing.Goals as goal

pub unkept-errno-requires : goal.unkept-errno-requires
unkept-errno-requires c = listing_begun c.args.line c.args.self.now.lines c.requires.listing

pub reply_line-requires-clause-begun : goal.reply_line-requires-clause-begun
reply_line-requires-clause-begun c = listing_begun c.args.line c.args.self.now.lines c.requires.listing

pub returns : goal.returns
returns c page bytes more =
    let listing = c.requires.listing in
    fails_listing c.args.line page bytes c.unkept-errno.result c.args.more c.args.self.now c.reply_line.new.self listing more (c.unkept-errno.ensures listing.standing listing.heard listing.stands listing.phase) c.reply_line.ensures.answers c.reply_line.ensures.shared
