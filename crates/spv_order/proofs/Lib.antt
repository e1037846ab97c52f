mod SweepLemmas
mod TouchLemmas
mod OrderLemmas
mod ExchangeLemmas
