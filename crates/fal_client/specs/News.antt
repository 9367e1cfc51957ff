-- What a client hears.
use Rattle.std.specs.Prelude.{Option, Some, None}
use Rattle.fal_base.specs.declared.call.CallId.{CallId}
use Rattle.fal_wire.specs.declared.message.Message.{Message}
use Rattle.fal_wire.specs.declared.message.Message.TheVariants as message
use Rattle.fal_client.specs.declared.news.News.{News}
use Rattle.fal_client.specs.declared.news.News.TheVariants as news

-- what a message says to a client, and about which call; none for a kind that a client does not hear
unfoldable pub news_of : Message → Option (CallId × News)
news_of (message.Reply id reply) = Some (id, news.Replied reply)
news_of (message.Stale id old new changes) = Some (id, news.Stale old new changes)
news_of (message.Opened id dir) = Some (id, news.Opened dir)
news_of (message.ListPart id node names) = Some (id, news.Part node names)
news_of other = None
