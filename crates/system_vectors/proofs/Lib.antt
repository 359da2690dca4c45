mod FlagsBack
mod Segments
mod Results
mod Leads
mod HandlerReturns
